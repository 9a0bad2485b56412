-- The equations of `Resample` settle the answer and the output. Assumes nothing.
use Prim.Native.Nat.{ℕ}
use mathlib.Core.Path.{◌≡◌, sym, ap, ◌∙◌}
use mathlib.Core.List.{List, [], ◌∷◌}
use lib.Ieee.{Float}
use Rattle.std.specs.Prelude.{Result, Ok, Err}
use Rattle.answers.specs.declared.refusals.Refusal.{Refusal}
use Rattle.answers.proofs.Settled.{refused-settled, refused-not-accepted}
use Rattle.resample.specs.Resample.{answer_of, Resample}

alike : (r s : Result ℕ Refusal) → answer_of r ≡ answer_of s → r ≡ s
alike (Ok a) (Ok b) e = let f = ap (λ x. x.values) e in cc
alike (Ok a) (Err y) e = absurd (refused-not-accepted y (a ∷ []) (sym e))
alike (Err x) (Ok b) e = absurd (refused-not-accepted x (b ∷ []) e)
alike (Err x) (Err y) e = ap Err (refused-settled x y e)

pub resample-unique :
    (points : List Float) (count : ℕ) (before : List Float) (r s : Result ℕ Refusal) (after₁ after₂ : List Float)
    → Resample points count before r after₁
    → Resample points count before s after₂
    → (r ≡ s) × (after₁ ≡ after₂)
resample-unique points count before r s after₁ after₂ p q = (alike r s (p.answer ∙ sym q.answer), p.output ∙ sym q.output)
