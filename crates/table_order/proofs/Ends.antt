-- The ends of a lookup: the target of 0 is at or below 0, that of 1 is at or above the total, bit for bit. Assumes nothing.
use mathlib.Core.Path.{◌≡◌, refl, sym, ap, ◌∙◌, subst}
use Prim.Native.Nat.{ℕ, zero-le, ◌*◌}
use native.Mathlib.Nat.{le_trans, le_of_eq, mul-zero, zero-mul}
use mathlib.Core.Bool.{not}
use lib.Dec.{T}
use lib.Ieee.{Float, binary32, mul, lt, le, eq, ne, of_bits}
use lib.Ieee.Positive.{num, den}
use Rattle.floats.specs.Floats.{zero_f, one_f, epsilon_f, clamp_of, clamp01_of}
use Rattle.floats.proofs.Order.{lt-le-trans, lt→le, not-le→lt, lt→not-le}
use Rattle.floats.proofs.Fractions.{nonneg-real}
use Rattle.floats.proofs.Rounded.{mul-rounds}
use Rattle.floats.proofs.Held.{Held, held-above}
use Rattle.floats.proofs.Bounds.{mul-whole}
use Rattle.floats.proofs.Constants.{zero_held, zero-num, one-held, one-num, epsilon-held, zero-lt-epsilon}
use Rattle.table.specs.Lookup.{target_of}

pub clamped-zero : clamp01_of zero_f ≡ zero_f
unfolding clamp01_of zero_f one_f clamp_of of_bits ne lt eq
clamped-zero = refl

pub clamped-one : clamp01_of one_f ≡ one_f
unfolding clamp01_of zero_f one_f clamp_of of_bits ne lt eq
clamped-one = refl

module _ (total : Float) (H : Held binary32 total) where
  pub target-of-zero : T (le (target_of total zero_f) zero_f)
  unfolding target_of
  target-of-zero =
      subst (λ (z : Float). T (le (mul binary32 total z) zero_f)) (sym clamped-zero)
      (held-above binary32 zero_f (mul binary32 total zero_f) (num total * num zero_f) (den total * den zero_f) zero_held (mul-rounds binary32 total zero_f H.nn zero_held.nn)
      (le_trans (le_of_eq (ap (λ (n : ℕ). num total * n * den zero_f) zero-num ∙ ap (λ (n : ℕ). n * den zero_f) (mul-zero (num total)) ∙ zero-mul (den zero_f))) zero-le))

  pub target-of-one : T (le total (target_of total one_f))
  unfolding target_of
  target-of-one = subst (λ (z : Float). T (le total (mul binary32 total z))) (sym clamped-one) (mul-whole binary32 total one_f H one-held.nn one-num)

  -- a total that exceeds 2 ^ -23 exceeds 0
  pub target-of-one-above : T (not (le total epsilon_f)) → T (not (le (target_of total one_f) zero_f))
  target-of-one-above long =
      let above = not-le→lt total epsilon_f (nonneg-real total H.nn) (nonneg-real epsilon_f epsilon-held.nn) long in
      lt→not-le (target_of total one_f) zero_f (lt-le-trans zero_f total (target_of total one_f) (lt-le-trans zero_f epsilon_f total zero-lt-epsilon (lt→le epsilon_f total above)) target-of-one)
