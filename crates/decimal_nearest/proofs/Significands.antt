-- The significand of q steps of 2 ^ k units: q itself where it has 24 digits, and even where q is. Assumes nothing.
use Prim.Native.Nat.{ℕ, suc, ◌+◌, ◌-◌, ◌*◌, ◌/◌, ◌%◌, ◌^◌, ◌≤◌, ◌<◌}
use mathlib.Core.Path.{◌≡◌, refl, sym, ap, ◌∙◌, subst}
use mathlib.Core.Logic.{◌⊎◌, inl, inr}
use native.Mathlib.Nat.{le_refl, le_trans, le_of_eq, le_antisymm, lt_of_le_of_lt, mul_assoc, mul-one, mul-le-mul_right, mul-div_cancel}
use native.Mathlib.Omega.{arith}
use lib.Pow.{pow-add, pow_pos, pow-lt, shl_lt}
use lib.Ieee.{size}
use lib.Ieee.Digits.{size-le, size_reaches}
use Rattle.decimal_rounding.proofs.Cell.{size_is}
use Rattle.decimal_rounding.proofs.Compares.{below_or_not}
use Rattle.decimal_nearest.specs.Nearest.{significand_of}

-- what is cut off, and what is left
cut_at : (n j a : ℕ) → size n - 24 ≡ j → n ≡ a * 2 ^ j → significand_of n ≡ a
cut_at n j a e f = ap (λ (z : ℕ). n / 2 ^ z) e ∙ ap (λ (z : ℕ). z / 2 ^ j) f ∙ mul-div_cancel a (pow_pos j)

module _ (q k : ℕ) where
  pub significand-is : q < 2 ^ 24 → (2 ^ 23 ≤ q) ⊎ (k ≡ 0) → significand_of (q * 2 ^ k) ≡ q
  significand-is few (inl full) =
      let lo : 2 ^ (23 + k) ≤ q * 2 ^ k = le_trans (le_of_eq (pow-add 2 23 k)) (mul-le-mul_right (2 ^ k) full) in
      let hi : q * 2 ^ k < 2 ^ suc (23 + k) = subst (λ (z : ℕ). q * 2 ^ k < 2 ^ z) (long k) (shl_lt 24 k few) in
      cut_at (q * 2 ^ k) k q (omega (arith, size_is (q * 2 ^ k) (23 + k) lo hi)) refl
    where
      long : (k : ℕ) → 24 + k ≡ suc (23 + k)
      long k = omega arith
  significand-is few (inr none) =
      let e : q * 2 ^ k ≡ q = ap (λ (z : ℕ). q * 2 ^ z) none ∙ mul-one q in
      let s : size (q * 2 ^ k) ≤ 24 = size-le (q * 2 ^ k) 24 (subst (λ (z : ℕ). z < 2 ^ 24) (sym e) few) in
      cut_at (q * 2 ^ k) 0 q (omega arith) (e ∙ sym (mul-one q))

  twice : (h x : ℕ) → 2 * h * x % 2 ≡ 0
  twice h x = omega (arith, mul_assoc 2 h x)

  pub significand-even : q ≤ 2 ^ 24 → q % 2 ≡ 0 → significand_of (q * 2 ^ k) % 2 ≡ 0
  significand-even few even = go (below_or_not (size (q * 2 ^ k) - 24) (suc k))
    where
      at_most : q * 2 ^ k ≤ 2 ^ (24 + k)
      at_most = le_trans (mul-le-mul_right (2 ^ k) few) (le_of_eq (sym (pow-add 2 24 k)))

      short : size (q * 2 ^ k) ≤ suc (24 + k)
      short = size-le (q * 2 ^ k) (suc (24 + k)) (lt_of_le_of_lt at_most (pow-lt (le_refl (suc (24 + k)))))

      inside : size (q * 2 ^ k) - 24 ≤ k → significand_of (q * 2 ^ k) % 2 ≡ 0
      inside l =
          let i = size (q * 2 ^ k) - 24 in
          let e : k ≡ k - i + i = omega arith in
          let h : q ≡ 2 * (q / 2) = omega arith in
          let f : q * 2 ^ k ≡ q * 2 ^ (k - i) * 2 ^ i =
          ap (λ (z : ℕ). q * 2 ^ z) e ∙ ap (λ (z : ℕ). q * z) (pow-add 2 (k - i) i) ∙ sym (mul_assoc q (2 ^ (k - i)) (2 ^ i)) in
          ap (λ (z : ℕ). z % 2) (cut_at (q * 2 ^ k) i (q * 2 ^ (k - i)) refl f ∙ ap (λ (z : ℕ). z * 2 ^ (k - i)) h) ∙ twice (q / 2) (2 ^ (k - i))

      -- only 2 ^ 24 steps have one digit more
      carried : suc k ≤ size (q * 2 ^ k) - 24 → significand_of (q * 2 ^ k) % 2 ≡ 0
      carried l =
          let s : 24 + k < size (q * 2 ^ k) = omega arith in
          let e : q * 2 ^ k ≡ 2 ^ (24 + k) = le_antisymm at_most (size_reaches (q * 2 ^ k) (24 + k) s) in
          let i : size (q * 2 ^ k) - 24 ≡ suc k = omega (arith, short) in
          let f : q * 2 ^ k ≡ 2 ^ 23 * 2 ^ suc k = e ∙ ap (λ (z : ℕ). 2 ^ z) (shift k) ∙ pow-add 2 23 (suc k) in
          ap (λ (z : ℕ). z % 2) (cut_at (q * 2 ^ k) (suc k) (2 ^ 23) i f)
        where
          shift : (k : ℕ) → 24 + k ≡ 23 + suc k
          shift k = omega arith

      go : (size (q * 2 ^ k) - 24 < suc k) ⊎ (suc k ≤ size (q * 2 ^ k) - 24) → significand_of (q * 2 ^ k) % 2 ≡ 0
      go (inl l) = inside (omega arith)
      go (inr g) = carried g
