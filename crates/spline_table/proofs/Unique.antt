-- The equations of `SplineTable` settle the answer and every place of the table. Assumes nothing.
use Prim.Native.Nat.{ℕ}
use mathlib.Core.Path.{◌≡◌, sym, ap, ◌∙◌}
use mathlib.Core.List.{List, [], ◌∷◌}
use lib.Ieee.{Float}
use Rattle.std.specs.Prelude.{Result, Ok, Err}
use Rattle.answers.specs.declared.refusals.Refusal.{Refusal}
use Rattle.answers.proofs.Settled.{refused-settled, refused-not-accepted}
use Rattle.spline_table.specs.Tables.{answer_of, SplineTable}

alike : (r s : Result ℕ Refusal) → answer_of r ≡ answer_of s → r ≡ s
alike (Ok a) (Ok b) e = let f = ap (λ x. x.values) e in cc
alike (Ok a) (Err y) e = absurd (refused-not-accepted y (a ∷ []) (sym e))
alike (Err x) (Ok b) e = absurd (refused-not-accepted x (b ∷ []) e)
alike (Err x) (Err y) e = ap Err (refused-settled x y e)

pub spline-table-unique : (points before : List Float) (r s : Result ℕ Refusal) (after₁ after₂ : List Float) → SplineTable points before r after₁ → SplineTable points before s after₂ → (r ≡ s) × (after₁ ≡ after₂)
spline-table-unique points before r s after₁ after₂ p q = (alike r s (p.answer ∙ sym q.answer), p.places ∙ sym q.places)
