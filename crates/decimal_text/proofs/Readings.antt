-- Worked examples: what the grammar takes and what it leaves out. Assumes nothing.
use mathlib.Core.Path.{refl}
use mathlib.Core.List.{[], ◌∷◌}
use mathlib.Core.Logic.{inl, inr}
use Rattle.scan.specs.Bytes.{among}
use Rattle.scan.specs.Runs.{stands}
use Rattle.strict_grammar.specs.Spans.{none}
use Rattle.decimal_text.specs.Converts.{Mantissa, Exponent, Converts}

-- `5.`: a point behind the digits, and no digit after it
pub point-behind : Converts (53 ∷ 46 ∷ []) 0 2
unfolding Converts Mantissa stands among
point-behind =
    (0, inr refl, (2, inr (inl (1, (1, record { there = refl; next = refl }, none refl), (2, record { there = refl; next = refl }, none refl))), inr refl))

-- `-.5E+0`: a point before them, and an exponent with its sign
pub point-before : Converts (45 ∷ 46 ∷ 53 ∷ 69 ∷ 43 ∷ 48 ∷ []) 0 6
unfolding Converts Mantissa Exponent stands among
point-before = (
  1,
  inl (record { there = refl; next = refl }),
  (
    3,
    inr (inr (1, none refl, (2, record { there = refl; next = refl }, (3, record { there = refl; next = refl }, none refl)))),
    inl (4, record { there = refl; next = refl }, (5, inl (record { there = refl; next = refl }), (6, record { there = refl; next = refl }, none refl))),
  ),
)
