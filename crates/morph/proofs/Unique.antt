-- The equations of `Evaluate` and `Morph` settle the answers and the outputs; `bounds_at` equals its definition. Assumes nothing.
use Prim.Native.Nat.{ℕ}
use mathlib.Core.Path.{◌≡◌, sym, ap, ◌∙◌}
use mathlib.Core.List.{List, [], ◌∷◌}
use lib.Ieee.{Float}
use Rattle.std.specs.Prelude.{Result, Ok, Err}
use Rattle.answers.specs.declared.refusals.Refusal.{Refusal}
use Rattle.answers.proofs.Settled.{refused-settled, refused-not-accepted}
use Rattle.morph.specs.Evaluate as Evaluate
use Rattle.morph.specs.Bounds.{bounded_of}
use Rattle.morph.specs.Morph as Morph
use Rattle.morph.specs.declared.bounding.Bounds.{Bounds}
use Rattle.morph.specs.declared.morphing.Morphed.{Morphed}

-- ---- evaluate
alike : (r s : Result ℕ Refusal) → Evaluate.answer_of r ≡ Evaluate.answer_of s → r ≡ s
alike (Ok a) (Ok b) e = let f = ap (λ x. x.values) e in cc
alike (Ok a) (Err y) e = absurd (refused-not-accepted y (a ∷ []) (sym e))
alike (Err x) (Ok b) e = absurd (refused-not-accepted x (b ∷ []) e)
alike (Err x) (Err y) e = ap Err (refused-settled x y e)

pub evaluate-unique :
    (from to : List Float) (t : Float) (before : List Float) (r s : Result ℕ Refusal) (after₁ after₂ : List Float)
    → Evaluate.Evaluate from to t before r after₁
    → Evaluate.Evaluate from to t before s after₂
    → (r ≡ s) × (after₁ ≡ after₂)
evaluate-unique from to t before r s after₁ after₂ p q = (alike r s (p.answer ∙ sym q.answer), p.output ∙ sym q.output)

-- ---- bounds_at
pub bounds-unique : (from to : List Float) (t : Float) (r s : Result Bounds Refusal) → r ≡ bounded_of from to t → s ≡ bounded_of from to t → r ≡ s
bounds-unique from to t r s p q = p ∙ sym q

-- ---- morph
alike-shapes : (r s : Result Morphed Refusal) → Morph.answer_of r ≡ Morph.answer_of s → r ≡ s
alike-shapes (Ok a) (Ok b) e = let f = ap (λ x. x.values) e in ap Ok (joined (cc) (cc))
  where
    joined : {x y z w : ℕ} → x ≡ z → y ≡ w → ◌≡◌ {A = Morphed} (record { from = x; to = y }) (record { from = z; to = w })
    joined p q = cc
alike-shapes (Ok a) (Err y) e = absurd (refused-not-accepted y (a.from ∷ a.to ∷ []) (sym e))
alike-shapes (Err x) (Ok b) e = absurd (refused-not-accepted x (b.from ∷ b.to ∷ []) e)
alike-shapes (Err x) (Err y) e = ap Err (refused-settled x y e)

pub morph-unique :
    (from to : List Float) (count : ℕ) (one other : List Float) (r s : Result Morphed Refusal) (one₁ one₂ other₁ other₂ : List Float)
    → Morph.Morph from to count one other r one₁ other₁
    → Morph.Morph from to count one other s one₂ other₂
    → (r ≡ s) × (one₁ ≡ one₂) × (other₁ ≡ other₂)
morph-unique from to count one other r s one₁ one₂ other₁ other₂ p q =
    (alike-shapes r s (p.answer ∙ sym q.answer), p.from_shape ∙ sym q.from_shape, p.to_shape ∙ sym q.to_shape)
