-- Where a product stands among the floats: which steps it is counted in, and when it is past the largest or below half the smallest. Assumes nothing.
use Prim.Native.Nat.{ℕ, suc, ◌+◌, ◌-◌, ◌*◌, ◌^◌, ◌≤◌, ◌<◌}
use mathlib.Core.Path.{◌≡◌, refl, ap, sym, ◌∙◌, subst}
use mathlib.Core.Bool.{Bool, cond}
use native.Mathlib.Nat.{le_refl, le_trans, le_of_eq, lt_of_le_of_lt, lt_of_lt_of_le, le_of_lt, mul_assoc, mul_comm, mul_right_comm, mul-le-mul_right, mul-le-mul_left, mul-pos, le_of_mul-le-mul_right, lt_of_mul-lt-mul_right}
use native.Mathlib.Omega.{arith}
use lib.Dec.{lit≤}
use lib.Pow.{pow_pos, pow_mono, pow-add}
use lib.Ieee.{binary32, round, of_bits}
use Rattle.floats.specs.Patterns.{sign_place, infinity_bits}
use Rattle.decimal_rounding.proofs.Limits.{infinite-far, zero-to}
use Rattle.decimal_rounding.proofs.Pattern.{infinite-bits, zero_bits}
use Rattle.decimal_product.specs.Near.{Bracket}

-- a step of 2 ^ k is 2 ^ a units, the units being 2 ^ b and the number 2 ^ d times larger
pub units-agree : (den a b k d : ℕ) → a + b ≡ k + d → 2 ^ a * (2 ^ b * den) ≡ den * 2 ^ k * 2 ^ d
units-agree den a b k d e =
    sym (mul_assoc (2 ^ a) (2 ^ b) den)
    ∙ ap (λ (z : ℕ). z * den) (sym (pow-add 2 a b) ∙ ap (λ (z : ℕ). 2 ^ z) e ∙ pow-add 2 k d)
    ∙ mul_comm (2 ^ k * 2 ^ d) den
    ∙ sym (mul_assoc den (2 ^ k) (2 ^ d))

module _ (s : Bool) (num den product b d : ℕ) (D : 0 < den) (B : Bracket product (2 ^ b * den) (2 ^ d) num) where
  -- the leading digit alone is 2 ^ 128 or more
  pub too_large : (r : ℕ) → 2 ^ (23 + r) ≤ product → 277 + d ≤ 23 + r + b → (infinity_bits ≤ infinity_bits) × (round binary32 s num den ≡ of_bits binary32 (cond s sign_place 0 + infinity_bits))
  too_large r h l =
      let scaled : 2 ^ 277 * den * 2 ^ d ≤ num * 2 ^ 149 * 2 ^ d =
      le_trans (le_of_eq (mul_right_comm (2 ^ 277) den (2 ^ d) ∙ ap (λ (z : ℕ). z * den) (sym (pow-add 2 277 d))))
      (le_trans (mul-le-mul_right den (pow_mono l))
      (le_trans (le_of_eq (ap (λ (z : ℕ). z * den) (pow-add 2 (23 + r) b) ∙ mul_assoc (2 ^ (23 + r)) (2 ^ b) den))
      (le_trans (mul-le-mul_right (2 ^ b * den) h) B.at_least))) in
      (le_refl infinity_bits, infinite-far s num den D (le_of_mul-le-mul_right scaled (pow_pos d)) ∙ infinite-bits s)

  -- it is less than 2 ^ -150
  pub too_small : product < 2 ^ 60 → b + 62 ≤ d → (0 ≤ infinity_bits) × (round binary32 s num den ≡ of_bits binary32 (cond s sign_place 0 + 0))
  too_small h l =
      let room : product + 5 ≤ 2 ^ 61 = omega arith in
      let unit = 2 ^ 61 * 2 ^ b in
      let deep : unit * 2 ≤ 2 ^ d = le_trans (le_of_eq (mul_comm unit 2 ∙ sym (mul_assoc 2 (2 ^ 61) (2 ^ b)) ∙ mul_comm (2 ^ 62) (2 ^ b) ∙ sym (pow-add 2 b 62))) (pow_mono l) in
      let scaled : num * 2 ^ 150 * unit < den * unit =
      lt_of_le_of_lt (le_of_eq (ap (λ (z : ℕ). z * unit) (sym (mul_assoc num (2 ^ 149) 2)) ∙ mul_assoc (num * 2 ^ 149) 2 unit ∙ ap (λ (z : ℕ). num * 2 ^ 149 * z) (mul_comm 2 unit)))
      (lt_of_le_of_lt (mul-le-mul_left (num * 2 ^ 149) deep)
      (lt_of_lt_of_le B.below
      (le_trans (mul-le-mul_right (2 ^ b * den) room) (le_of_eq (sym (mul_assoc (2 ^ 61) (2 ^ b) den) ∙ mul_comm unit den))))) in
      (lit≤ tt, zero-to s num den D (le_of_lt (lt_of_mul-lt-mul_right unit scaled)) ∙ zero_bits s)
