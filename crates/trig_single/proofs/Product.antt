-- A whole number of up to 63 digits, rounded to an f64: where the rounded pattern does not end in the middle of two f32, it packs as the number does. Assumes nothing.
use mathlib.Core.Path.{◌≡◌, refl, sym, ap, ◌∙◌, subst}
use mathlib.Core.Logic.{◌⊎◌, inl, inr, ⊎_elim}
use mathlib.Core.Bool.{Bool, true, false, cond}
use Prim.Native.Nat.{ℕ, suc, ◌+◌, ◌-◌, ◌*◌, ◌/◌, ◌%◌, ◌^◌, ◌≤◌, ◌<◌, compare}
use native.Mathlib.Nat.{le_trans, lt_of_lt_of_le, mul_assoc, add-mul, mod-lt, div-add-mod', mul-lt-mul_of_pos_right, mul-le-mul_right, eq-or-lt_of_le, lt_of_not-le, not-le_of_lt}
use native.Mathlib.Omega.{arith}
use borrow.Author.Tests.{ltb-true, ltb-false}
use lib.Dec.{ltb}
use lib.Count.{count_leading_zeros, leading_top}
use lib.Pow.{pow-add, pow_pos, pow_mono, shl_lt}
use lib.Ieee.{binary64, round, nearest, to_bits, of_bits}
use lib.Ieee.Fits.{nearest-le}
use lib.Ieee.Nearest.{nearest-ge}
use Rattle.floats.specs.Patterns.{wide_hidden, wide_sign_place, narrow_step, narrow_half}
use Rattle.decimal_rounding.proofs.Cell.{cell}
use Rattle.decimal_rounding.proofs.Pattern.{units-bits}
use Rattle.decimal_rounding.specs.Wide.{narrowed_of}
use Rattle.trig_rule.specs.Steps.{pack_of, rounded_of}
use Rattle.trig_single.proofs.Finite.{bits_back}
use Rattle.trig_single.proofs.Packed.{Packed, packed-at, sign_below, plain-sign, whole-packed}

-- the highest digit of n is that of 2 ^ i, beyond the 53 of an f64
module _ (s : Bool) (u k n i : ℕ) (units₀ : u + k ≡ 86) (many : 53 ≤ i) (fits : i ≤ 62) (zeros : count_leading_zeros 64 n + suc i ≡ 64) (low : 2 ^ i ≤ n) (high : n < 2 ^ suc i) where
  abbrev kept : ℕ
  kept = n / 2 ^ (i - 52)

  abbrev left : ℕ
  left = n % 2 ^ (i - 52)

  abbrev field : ℕ
  field = 1022 + i - u

  whole : kept * 2 ^ (i - 52) + left ≡ n
  whole = div-add-mod' n (2 ^ (i - 52))

  -- n moved up to the 64th digit
  moved : n * 2 ^ (63 - i) ≡ kept * 2048 + left * 2 ^ (63 - i)
  moved =
      let e : i - 52 + (63 - i) ≡ 11 = omega arith in
      ap (λ (x : ℕ). x * 2 ^ (63 - i)) (sym whole) ∙ add-mul (kept * 2 ^ (i - 52)) left (2 ^ (63 - i))
      ∙ ap (λ (x : ℕ). x + left * 2 ^ (63 - i)) (mul_assoc kept (2 ^ (i - 52)) (2 ^ (63 - i)) ∙ ap (λ (x : ℕ). kept * x) (sym (pow-add 2 (i - 52) (63 - i)) ∙ ap (λ (x : ℕ). 2 ^ x) e))

  left-low : left * 2 ^ (63 - i) < 2048
  left-low =
      let e : i - 52 + (63 - i) ≡ 11 = omega arith in
      subst (λ (x : ℕ). left * 2 ^ (63 - i) < x) (sym (pow-add 2 (i - 52) (63 - i)) ∙ ap (λ (x : ℕ). 2 ^ x) e) (mul-lt-mul_of_pos_right (mod-lt n (pow_pos (i - 52))) (pow_pos (63 - i)))

  moved-low : 2 ^ 63 ≤ n * 2 ^ (63 - i)
  moved-low =
      let e : i + (63 - i) ≡ 63 = omega arith in
      le_trans (subst (λ (x : ℕ). 2 ^ 63 ≤ x) (ap (λ (x : ℕ). 2 ^ x) (sym e) ∙ pow-add 2 i (63 - i)) (omega arith)) (mul-le-mul_right (2 ^ (63 - i)) low)

  moved-high : n * 2 ^ (63 - i) < 2 ^ 64
  moved-high =
      let e : suc i + (63 - i) ≡ 64 = omega arith in
      subst (λ (x : ℕ). n * 2 ^ (63 - i) < 2 ^ x) e (shl_lt (suc i) (63 - i) high)

  kept_low : wide_hidden ≤ kept
  kept_low = let a = moved in let b = left-low in let c = moved-low in omega arith

  kept_high : kept < 9007199254740992
  kept_high = let a = moved in let c = moved-high in omega arith

  in_cell : n * 2 ^ 1074 ≡ kept * (2 ^ u * 2 ^ field) + left * 2 ^ 1074
  in_cell =
      let e : i - 52 + 1074 ≡ u + field = omega arith in
      ap (λ (x : ℕ). x * 2 ^ 1074) (sym whole) ∙ add-mul (kept * 2 ^ (i - 52)) left (2 ^ 1074)
      ∙ ap (λ (x : ℕ). x + left * 2 ^ 1074)
      (mul_assoc kept (2 ^ (i - 52)) (2 ^ 1074) ∙ ap (λ (x : ℕ). kept * x) (sym (pow-add 2 (i - 52) 1074) ∙ ap (λ (x : ℕ). 2 ^ x) e ∙ pow-add 2 u field))

  cell-rest : left * 2 ^ 1074 < 2 ^ u * 2 ^ field
  cell-rest =
      let e : i - 52 + 1074 ≡ u + field = omega arith in
      subst (λ (x : ℕ). left * 2 ^ 1074 < x) (sym (pow-add 2 (i - 52) 1074) ∙ ap (λ (x : ℕ). 2 ^ x) e ∙ pow-add 2 u field) (mul-lt-mul_of_pos_right (mod-lt n (pow_pos (i - 52))) (pow_pos 1074))

  abbrev up : ℕ
  up = nearest kept (compare (left * 2 ^ 1074 * 2) (2 ^ u * 2 ^ field))

  up_le : up ≤ suc kept
  up_le = nearest-le kept (compare (left * 2 ^ 1074 * 2) (2 ^ u * 2 ^ field))

  up-ge : kept ≤ up
  up-ge = nearest-ge kept (compare (left * 2 ^ 1074 * 2) (2 ^ u * 2 ^ field))

  round-bits : round binary64 s n (2 ^ u) ≡ of_bits binary64 (cond s wide_sign_place 0 + field * wide_hidden + up)
  round-bits =
      let l : 54 + field ≤ 2098 = omega arith in
      cell binary64 s n (2 ^ u) kept field (left * 2 ^ 1074) (pow_pos u) kept_high in_cell cell-rest (inl kept_low)
      ∙ units-bits binary64 s up field (let a = up_le in let b = kept_high in omega arith) (inl (le_trans kept_low up-ge))
      (lt_of_lt_of_le (shl_lt 54 field (let a = up_le in let b = kept_high in let h : up < 2 ^ 54 = omega arith in h)) (pow_mono l))

  long-packed : (to_bits binary64 (round binary64 s n (2 ^ u)) % narrow_step ≡ narrow_half → ⊥) → Packed (to_bits binary64 (round binary64 s n (2 ^ u))) s n k
  long-packed apart =
      let p = field * wide_hidden + up in
      let a = up_le in
      let b = up-ge in
      let kl = kept_low in
      let kh = kept_high in
      let sb = sign_below s in
      let f : 936 ≤ field = omega arith in
      let g : field ≤ 1084 = omega arith in
      let ps = plain-sign s p (omega arith) in
      let same : cond s wide_sign_place 0 + field * wide_hidden + up ≡ cond s wide_sign_place 0 + p = omega arith in
      let bits : to_bits binary64 (round binary64 s n (2 ^ u)) ≡ cond s wide_sign_place 0 + p =
      ap (to_bits binary64) round-bits ∙ ap (λ (x : ℕ). to_bits binary64 (of_bits binary64 x)) same ∙ bits_back (cond s wide_sign_place 0 + p) (omega arith) (omega arith) in
      record { size = p; bits = bits; low = omega arith; high = omega arith; single = packs (λ e. apart (ap (λ (x : ℕ). x % narrow_step) bits ∙ tail s p e)) }
    where
      tail : (s : Bool) (p : ℕ) → p % narrow_step ≡ narrow_half → (cond s wide_sign_place 0 + p) % narrow_step ≡ narrow_half
      tail true p e = omega arith
      tail false p e = omega arith

      -- the rounded number's digits past the 24th say what those of n say
      rounds : (m f kept L up x : ℕ) → m ≡ kept * 2048 + L → L < 2048 → kept ≤ up → up ≤ suc kept → f ≡ 896 + x
          → ((f * wide_hidden + up) % narrow_step < narrow_half) ⊎ (narrow_half < (f * wide_hidden + up) % narrow_step)
          → narrowed_of (f * wide_hidden + up) ≡ x * 8388608 + rounded_of m
      rounds m f kept L up x em l a b ef (inl h) = omega arith
      rounds m f kept L up x em l a b ef (inr h) = omega arith

      side : (x : ℕ) → (x ≡ narrow_half → ⊥) → (x < narrow_half) ⊎ (narrow_half < x)
      side x differs = go (ltb x narrow_half) refl
        where
          go : (b : Bool) → ltb x narrow_half ≡ b → (x < narrow_half) ⊎ (narrow_half < x)
          go true e = inl (ltb-true x narrow_half e)
          go false e = ⊎_elim (λ g. absurd (differs (sym g))) inr (eq-or-lt_of_le (ltb-false x narrow_half e))

      packs : ((field * wide_hidden + up) % narrow_step ≡ narrow_half → ⊥) → narrowed_of (field * wide_hidden + up) ≡ pack_of n k
      packs differs =
          let f : field ≡ 896 + (40 + k + i) = omega arith in
          rounds (n * 2 ^ (63 - i)) field kept (left * 2 ^ (63 - i)) up (40 + k + i) moved left-low up-ge up_le f (side ((field * wide_hidden + up) % narrow_step) differs)
          ∙ sym (packed-at n k i zeros (λ e. let p = pow_pos i in omega arith) high)

module _ (s : Bool) (u k n : ℕ) (units₀ : u + k ≡ 86) (some : 0 < n) (few : n < 2 ^ 63) where
  pub product-packed : (to_bits binary64 (round binary64 s n (2 ^ u)) % narrow_step ≡ narrow_half → ⊥) → Packed (to_bits binary64 (round binary64 s n (2 ^ u))) s n k
  product-packed apart = go (ltb n (2 ^ 53)) refl
    where
      long : 2 ^ 53 ≤ n → (i : ℕ) → count_leading_zeros 64 n + suc i ≡ 64 → 2 ^ i ≤ n → n < 2 ^ suc i → Packed (to_bits binary64 (round binary64 s n (2 ^ u))) s n k
      long h i e low high =
          let a : 53 < suc i = lt_of_not-le (λ (g : suc i ≤ 53). not-le_of_lt (lt_of_lt_of_le high (pow_mono g)) h) in
          let b : i < 63 = lt_of_not-le (λ (g : 63 ≤ i). not-le_of_lt few (le_trans (pow_mono g) low)) in
          long-packed s u k n i units₀ (omega arith) (omega arith) e low high apart

      go : (x : Bool) → ltb n (2 ^ 53) ≡ x → Packed (to_bits binary64 (round binary64 s n (2 ^ u))) s n k
      go true e = whole-packed s u k n units₀ some (ltb-true n (2 ^ 53) e)
      go false e = let t = leading_top 64 n some (omega arith) in long (ltb-false n (2 ^ 53) e) t.0 t.1 t.2 t.3
