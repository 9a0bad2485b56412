-- The bits that `pack_of` makes stand for w * 2 ^ (s - 86) to within half a unit of the 24th digit. Assumes nothing.
use mathlib.Core.Path.{◌≡◌, sym, ap, ◌∙◌, subst}
use mathlib.Core.Logic.{◌⊎◌, inl, inr}
use Prim.Native.Nat.{ℕ, suc, ◌+◌, ◌-◌, ◌*◌, ◌/◌, ◌%◌, ◌^◌, ◌≤◌, ◌<◌}
use native.Mathlib.Nat.{le_trans, le_of_eq, lt_of_lt_of_le, lt_of_le_of_lt, lt_of_not-le, not-le_of_lt, mod-eq_of_lt, mod-lt, mul_assoc, mul_right_comm, add-mul, zero-mul, mul-le-mul_right, le_of_mul-le-mul_right, eq-zero-or-pos, ne_of_gt}
use native.Mathlib.Omega.{arith}
use mathlib.Core.Bool.{Bool, true, false, cond}
use lib.Dec.{eqb}
use lib.Pow.{pow_pos, pow_mono, pow-add, shl_lt}
use lib.Count.{count_leading_zeros, leading_top, leading_le}
use lib.Ieee.{binary32, of_bits}
use borrow.Author.Tests.{ne_eqb, eq-eqb}
use Rattle.floats.specs.Patterns.{hidden, sign_place}
use Rattle.trig_rule.specs.Rule.{Is}
use Rattle.trig_rule.specs.Steps.{pack_of, rounded_of}
use Rattle.trig_rule.proofs.Patterns.{bits-value, subnormal-value}

pub pow_lt_cancel : {a b : ℕ} → 2 ^ a < 2 ^ b → a < b
pow_lt_cancel h = lt_of_not-le (λ g. not-le_of_lt h (pow_mono g))

-- ---- rounding to 24 digits
rounded-low : (n : ℕ) → 2 ^ 63 ≤ n → hidden ≤ rounded_of n
rounded-low n h = omega arith

rounded-high : (n : ℕ) → n < 2 ^ 64 → rounded_of n ≤ 16777216
rounded-high n h = omega arith

rounded-above : (n : ℕ) → rounded_of n * 2 ^ 40 ≤ n + 2 ^ 39
rounded-above n = omega arith

rounded-below : (n : ℕ) → n ≤ rounded_of n * 2 ^ 40 + 2 ^ 39
rounded-below n = omega arith

-- w * 2 ^ (s - 86) is below 4, so that half a unit of its 24th digit is 2 ^ -23 at most
pub record Packed (w s : ℕ) : Type 0 where
  pub units : ℕ
  pub value : Is (of_bits binary32 (pack_of w s)) false units
  pub above : units ≤ w * 2 ^ (s + 63) + 2 ^ 126
  pub below : w * 2 ^ (s + 63) ≤ units + 2 ^ 126

-- z is the count of leading zeros, j the highest digit's place, and f the field
module _ (w s z j f : ℕ) (ez : z + suc j ≡ 64) (lo : 2 ^ j ≤ w) (hi : w < 2 ^ suc j) (ef : f + z ≡ 103 + s) (under : w * 2 ^ s < 2 ^ 88) where
  n-low : 2 ^ 63 ≤ w * 2 ^ z
  n-low = le_trans (le_of_eq (ap (λ (k : ℕ). 2 ^ k) sum ∙ pow-add 2 j z)) (mul-le-mul_right (2 ^ z) lo)
    where
      sum : 63 ≡ j + z
      sum = omega arith

  n-high : w * 2 ^ z < 2 ^ 64
  n-high = lt_of_lt_of_le (shl_lt (suc j) z hi) (le_of_eq (ap (λ (k : ℕ). 2 ^ k) sum))
    where
      sum : suc j + z ≡ 64
      sum = omega arith

  slack : 2 ^ 39 * 2 ^ (s + 63) ≤ 2 ^ 126 * 2 ^ z
  slack =
      let a : 2 ^ (j + s) < 2 ^ 88 = lt_of_le_of_lt (le_of_eq (pow-add 2 j s)) (lt_of_le_of_lt (mul-le-mul_right (2 ^ s) lo) under) in
      let b : j + s < 88 = pow_lt_cancel a in
      let order : 39 + (s + 63) ≤ 126 + z = omega arith in
      le_trans (le_of_eq (sym (pow-add 2 39 (s + 63)))) (le_trans (pow_mono order) (le_of_eq (pow-add 2 126 z)))

  moved : (q : ℕ) → q * 2 ^ f * 2 ^ z ≡ q * 2 ^ 40 * 2 ^ (s + 63)
  moved q = mul_assoc q (2 ^ f) (2 ^ z) ∙ ap (λ (x : ℕ). q * x) (sym (pow-add 2 f z) ∙ ap (λ (k : ℕ). 2 ^ k) sum ∙ pow-add 2 40 (s + 63)) ∙ sym (mul_assoc q (2 ^ 40) (2 ^ (s + 63)))
    where
      sum : f + z ≡ 40 + (s + 63)
      sum = omega arith

  pub units-above : rounded_of (w * 2 ^ z) * 2 ^ f ≤ w * 2 ^ (s + 63) + 2 ^ 126
  units-above =
      let q = rounded_of (w * 2 ^ z) in
      let a : q * 2 ^ 40 * 2 ^ (s + 63) ≤ (w * 2 ^ z + 2 ^ 39) * 2 ^ (s + 63) = mul-le-mul_right (2 ^ (s + 63)) (rounded-above (w * 2 ^ z)) in
      let b : (w * 2 ^ z + 2 ^ 39) * 2 ^ (s + 63) ≡ w * 2 ^ z * 2 ^ (s + 63) + 2 ^ 39 * 2 ^ (s + 63) = add-mul (w * 2 ^ z) (2 ^ 39) (2 ^ (s + 63)) in
      let g : (w * 2 ^ (s + 63) + 2 ^ 126) * 2 ^ z ≡ w * 2 ^ (s + 63) * 2 ^ z + 2 ^ 126 * 2 ^ z = add-mul (w * 2 ^ (s + 63)) (2 ^ 126) (2 ^ z) in
      let m = moved q in
      let x = mul_right_comm w (2 ^ z) (2 ^ (s + 63)) in
      let y = slack in
      le_of_mul-le-mul_right {k = 2 ^ z} (omega arith) (pow_pos z)

  pub units-below : w * 2 ^ (s + 63) ≤ rounded_of (w * 2 ^ z) * 2 ^ f + 2 ^ 126
  units-below =
      let q = rounded_of (w * 2 ^ z) in
      let a : w * 2 ^ z * 2 ^ (s + 63) ≤ (q * 2 ^ 40 + 2 ^ 39) * 2 ^ (s + 63) = mul-le-mul_right (2 ^ (s + 63)) (rounded-below (w * 2 ^ z)) in
      let b : (q * 2 ^ 40 + 2 ^ 39) * 2 ^ (s + 63) ≡ q * 2 ^ 40 * 2 ^ (s + 63) + 2 ^ 39 * 2 ^ (s + 63) = add-mul (q * 2 ^ 40) (2 ^ 39) (2 ^ (s + 63)) in
      let g : (q * 2 ^ f + 2 ^ 126) * 2 ^ z ≡ q * 2 ^ f * 2 ^ z + 2 ^ 126 * 2 ^ z = add-mul (q * 2 ^ f) (2 ^ 126) (2 ^ z) in
      let m = moved q in
      let x = mul_right_comm w (2 ^ z) (2 ^ (s + 63)) in
      let y = slack in
      le_of_mul-le-mul_right {k = 2 ^ z} (omega arith) (pow_pos z)

-- the bits where w is not 0
pack-is : (w s : ℕ) → (w ≡ 0 → ⊥) → w * 2 ^ count_leading_zeros 64 w < 2 ^ 64 → pack_of w s ≡ (103 + s - count_leading_zeros 64 w) * hidden + rounded_of (w * 2 ^ count_leading_zeros 64 w)
pack-is w s h l =
    simp (ne_eqb w 0 h) (ap (λ (n : ℕ). (103 + s - count_leading_zeros 64 w) * hidden + rounded_of n) (mod-eq_of_lt l))

pack-none : (w s : ℕ) → w ≡ 0 → pack_of w s ≡ 0
pack-none w s e = simp (eq-eqb w 0 e)

pub pack-near : (w s : ℕ) → w < 2 ^ 64 → s ≤ 60 → w * 2 ^ s < 2 ^ 88 → Packed w s
pack-near w s h hs under = go (eq-zero-or-pos w)
  where
    field : count_leading_zeros 64 w ≤ 64 → 103 + s - count_leading_zeros 64 w + count_leading_zeros 64 w ≡ 103 + s
    field k = omega arith

    go : (w ≡ 0) ⊎ (0 < w) → Packed w s
    go (inl e) =
        record {
          units = 0;
          value = subst (λ (b : ℕ). Is (of_bits binary32 b) false 0) (sym (pack-none w s e)) (subnormal-value 0 (omega arith));
          above = omega arith;
          below = le_trans (le_of_eq (ap (λ (n : ℕ). n * 2 ^ (s + 63)) e ∙ zero-mul (2 ^ (s + 63)))) (omega arith);
        }
    go (inr pos) =
        let t = leading_top 64 w pos h in
        let z = count_leading_zeros 64 w in
        let j = t.0 in
        let f = 103 + s - z in
        let ez : z + suc j ≡ 64 = t.1 in
        let ef : f + z ≡ 103 + s = field (leading_le 64 w) in
        let l = n-high w s z j f ez t.2 t.3 ef under in
        record {
          units = rounded_of (w * 2 ^ z) * 2 ^ f;
          value = subst (λ (b : ℕ). Is (of_bits binary32 b) false (rounded_of (w * 2 ^ z) * 2 ^ f)) (sym (pack-is w s (ne_of_gt pos) l))
              (bits-value f (rounded_of (w * 2 ^ z)) (rounded-low (w * 2 ^ z) (n-low w s z j f ez t.2 t.3 ef under)) (rounded-high (w * 2 ^ z) l) (omega arith));
          above = units-above w s z j f ez t.2 t.3 ef under;
          below = units-below w s z j f ez t.2 t.3 ef under;
        }

-- the bits are below the sign's
pack-lt-at : (t : Bool) (w s : ℕ) → s ≤ 60 → cond t 0 ((103 + s - count_leading_zeros 64 w) * hidden + (w * 2 ^ count_leading_zeros 64 w % 2 ^ 64 / 2 ^ 40 + w * 2 ^ count_leading_zeros 64 w % 2 ^ 64 / 2 ^ 39 % 2)) < sign_place
pack-lt-at true w s h = omega arith
pack-lt-at false w s h = omega (arith, mod-lt (w * 2 ^ count_leading_zeros 64 w) {m = 2 ^ 64} (omega arith))

pub pack-lt : (w s : ℕ) → s ≤ 60 → pack_of w s < sign_place
pack-lt w s h = pack-lt-at (eqb w 0) w s h
