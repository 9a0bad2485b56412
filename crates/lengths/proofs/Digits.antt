-- The root of an f64's pattern by its digits: from the whole root of the digits below the root, with 54 zeros behind, to the f64 root and
-- its f32. Assumes nothing.
use mathlib.Core.Path.{◌≡◌, refl, sym, ap, ◌∙◌}
use mathlib.Core.Logic.{◌⊎◌, inl, inr}
use mathlib.Core.Bool.{false}
use Prim.Native.Nat.{ℕ, suc, ◌+◌, ◌-◌, ◌*◌, ◌/◌, ◌%◌, ◌^◌, ◌≤◌, ◌<◌}
use native.Mathlib.Nat.{le_trans, le_of_eq, le_of_suc-le-suc, lt_of_lt_of_le, lt_of_le_of_lt, lt_of_not-le, not-le_of_lt, mul-le-mul, mul-le-mul_right, mul-lt-mul_of_pos_right, mul_assoc, mul_comm, mul-pos, mul-one}
use native.Mathlib.Decide.{dec_le}
use native.Mathlib.Omega.{arith}
use lib.Dec.{T, lit≤, lit<}
use lib.Pow.{pow-add, pow_pos, pow_mono, shl_lt}
use lib.Ieee.{binary32, binary64, of_bits, round}
use lib.Ieee.Bits.{of_bits-fits}
use lib.Ieee.Exact.{HasValue, round_exact}
use lib.Ieee.Fits.{round-fits}
use lib.Ieee.Positive.{num, den, den_pos, positive, positive_of_value, value→cross}
use lib.Ieee.Scale.{round_same}
use Rattle.floats.specs.Patterns.{wide_hidden}
use Rattle.root.specs.Root.{units_of, root_of}
use Rattle.root.proofs.Squares.{Root, square-scaled}
use Rattle.root.proofs.Middles.{Between}
use Rattle.root.proofs.Units.{units-of-value}
use Rattle.root.proofs.Nearest.{nearest-of-between, is-root}
use Rattle.lengths.specs.Length.{narrow_of}
use Rattle.decimal_rounding.proofs.Wide.{digits_of, power_of, pattern-value, pattern-positive, joined}
use Rattle.lengths.proofs.Narrow.{narrow-is}

-- the digits below the root, doubled where the field is even; the power of two of the root's 53 digits; and those, of 54 that were cut off
abbrev pub field_of : ℕ → ℕ
field_of b = b / wide_hidden

abbrev pub below : ℕ → ℕ
below b = digits_of b * (2 - field_of b % 2)

abbrev pub root_power : ℕ → ℕ
root_power b = (field_of b + 1073) / 2 - 26

abbrev pub half : ℕ → ℕ
half w = (w + 1) / 2

once-or-twice : (d x : ℕ) → ((x % 2 ≡ 0) × (d * (2 - x % 2) ≡ 2 * d)) ⊎ ((x % 2 ≡ 1) × (d * (2 - x % 2) ≡ d))
once-or-twice d x = go (dec_le 1 (x % 2))
  where
    go : Dec (1 ≤ x % 2) → ((x % 2 ≡ 0) × (d * (2 - x % 2) ≡ 2 * d)) ⊎ ((x % 2 ≡ 1) × (d * (2 - x % 2) ≡ d))
    go (yes h) = let e : x % 2 ≡ 1 = omega arith in inr (e, ap (λ (z : ℕ). d * (2 - z)) e ∙ mul-one d)
    go (no f) = let l : x % 2 < 1 = lt_of_not-le f in let e : x % 2 ≡ 0 = omega arith in inl (e, ap (λ (z : ℕ). d * (2 - z)) e ∙ mul_comm d 2)

pub below-bounds : (b : ℕ) → (2 ^ 52 ≤ below b) × (below b ≤ 2 ^ 54 - 2)
below-bounds b = elim (once-or-twice (digits_of b) (field_of b)) [ inl h ↦ (omega (arith, h.1), omega (arith, h.1)) | inr h ↦ (omega (arith, h.1), omega (arith, h.1)) ]

-- ---- the whole root has 54 digits, and is not all ones
module _ (n w : ℕ) (low : 2 ^ 52 ≤ n) (high : n ≤ 2 ^ 54 - 2) (r : Root (n * 2 ^ 54) w) where
  pub root-long : 2 ^ 53 ≤ w
  root-long =
      le_of_suc-le-suc
      (lt_of_not-le (λ (g : suc w ≤ 2 ^ 53).
      let h : w + 1 ≤ 2 ^ 53 = omega arith in
      not-le_of_lt r.high (le_trans (mul-le-mul h h) (le_trans (lit≤ tt) (mul-le-mul_right (2 ^ 54) low)))))

  pub root-few : w < 2 ^ 54 - 1
  root-few =
      lt_of_not-le (λ (g : 2 ^ 54 - 1 ≤ w).
      not-le_of_lt (lt_of_le_of_lt r.low (lt_of_le_of_lt (mul-le-mul_right (2 ^ 54) high) (lit< tt))) (mul-le-mul g g))

-- ---- powers of two put together
four-times : (d p : ℕ) → 4 * (d * 2 ^ p) ≡ d * 2 ^ (p + 2)
four-times d p = mul_comm 4 (d * 2 ^ p) ∙ joined d p 2

two-times : (d p : ℕ) → 2 * d * 2 ^ p ≡ d * 2 ^ (p + 1)
two-times d p = mul_assoc 2 d (2 ^ p) ∙ mul_comm 2 (d * 2 ^ p) ∙ joined d p 1

module _ (b : ℕ) (least : 723 * 2 ^ 52 ≤ b) (most : b < 1279 * 2 ^ 52) where
  value : HasValue (of_bits binary64 b) false (digits_of b * 2 ^ power_of b) (2 ^ 1074)
  value = pattern-value b (omega arith) (omega arith)

  above : T (positive (of_bits binary64 b))
  above = pattern-positive b (omega arith) (omega arith)

  scaled : 4 * (units_of binary64 (of_bits binary64 b) * 2 ^ 1074) ≡ below b * 2 ^ 54 * (2 ^ root_power b * 2 ^ root_power b)
  scaled =
      let d = digits_of b in
      let p = power_of b in
      let k = root_power b in
      let left : 4 * (units_of binary64 (of_bits binary64 b) * 2 ^ 1074) ≡ d * 2 ^ (p + 1074 + 2) =
      ap (λ (z : ℕ). 4 * (z * 2 ^ 1074)) (units-of-value binary64 (of_bits binary64 b) false (d * 2 ^ p) value) ∙ ap (λ (z : ℕ). 4 * z) (joined d p 1074) ∙ four-times d (p + 1074) in
      let right : below b * 2 ^ 54 * (2 ^ k * 2 ^ k) ≡ below b * 2 ^ (54 + (k + k)) = ap (λ (z : ℕ). below b * 2 ^ 54 * z) (sym (pow-add 2 k k)) ∙ joined (below b) 54 (k + k) in
      left ∙ sym (right ∙ elim (once-or-twice d (field_of b)) [
        | inl h ↦
            let e : 54 + (k + k) + 1 ≡ p + 1074 + 2 = omega (arith, h.0) in
            ap (λ (z : ℕ). z * 2 ^ (54 + (k + k))) h.1 ∙ two-times d (54 + (k + k)) ∙ ap (λ (z : ℕ). d * 2 ^ z) e
        | inr h ↦
            let e : 54 + (k + k) ≡ p + 1074 + 2 = omega (arith, h.0) in
            ap (λ (z : ℕ). z * 2 ^ (54 + (k + k))) h.1 ∙ ap (λ (z : ℕ). d * 2 ^ z) e
      ])

  module _ (w : ℕ) (r : Root (below b * 2 ^ 54) w) where
    w-long : 2 ^ 53 ≤ w
    w-long = root-long (below b) w (below-bounds b).0 (below-bounds b).1 r

    w-few : w < 2 ^ 54 - 1
    w-few = root-few (below b) w (below-bounds b).0 (below-bounds b).1 r

    pub half-bounds : (2 ^ 52 ≤ half w) × (half w < 2 ^ 53)
    half-bounds = (omega (arith, w-long), omega (arith, w-few))

    square-at : (c : ℕ) → c * 2 ^ root_power b * (c * 2 ^ root_power b) ≡ c * c * (2 ^ root_power b * 2 ^ root_power b)
    square-at c = square-scaled c (2 ^ root_power b)

    between : Between 53 (root_power b) (half w) (units_of binary64 (of_bits binary64 b) * 2 ^ 1074)
    between =
        let a = half w in
        let e = root_power b in
        let up : w + 1 ≤ 2 * a + 1 = omega arith in
        let down : 2 * a - 1 ≤ w = omega arith in
        record {
          long = omega (arith, w-long);
          below =
              lt_of_le_of_lt (le_of_eq scaled)
              (lt_of_lt_of_le (mul-lt-mul_of_pos_right (lt_of_lt_of_le r.high (mul-le-mul up up)) (mul-pos (pow_pos e) (pow_pos e))) (le_of_eq (sym (square-at (2 * a + 1)))));
          above = le_trans (le_of_eq (square-at (2 * a - 1))) (le_trans (mul-le-mul_right (2 ^ e * 2 ^ e) (le_trans (mul-le-mul down down) r.low)) (le_of_eq (sym scaled)));
          least = λ (h : 2 ^ 53 ≡ 2 * a).
              let k : 2 * a ≤ w = omega (arith, w-long) in
              le_trans (le_of_eq (square-at (2 * a))) (le_trans (mul-le-mul_right (2 ^ e * 2 ^ e) (le_trans (mul-le-mul k k) r.low)) (le_of_eq (sym scaled)));
        }

    wide_value : HasValue (round binary64 false (half w * 2 ^ root_power b) (2 ^ 1074)) false (half w * 2 ^ root_power b) (2 ^ 1074)
    wide_value =
        let q = half w in
        let k = root_power b in
        let e : 53 + k ≤ 2098 = omega arith in
        round_exact binary64 false (q * 2 ^ k) (2 ^ 1074) q k (pow_pos 1074) half-bounds.1 (lt_of_lt_of_le (shl_lt 53 k half-bounds.1) (pow_mono e)) refl

    wide-root : round binary64 false (half w * 2 ^ root_power b) (2 ^ 1074) ≡ root_of binary64 (of_bits binary64 b)
    wide-root =
        let x = of_bits binary64 b in
        let y = round binary64 false (half w * 2 ^ root_power b) (2 ^ 1074) in
        is-root binary64 x y (of_bits-fits binary64 b) above
        (nearest-of-between binary64 x (of_bits-fits binary64 b) above y (root_power b) (half w) (round-fits binary64 false (half w * 2 ^ root_power b) (2 ^ 1074)) wide_value between)

    pub root-rounded : narrow_of (root_of binary64 (of_bits binary64 b)) ≡ round binary32 false (half w * 2 ^ root_power b) (2 ^ 1074)
    root-rounded =
        let q = half w in
        let k = root_power b in
        let y = round binary64 false (q * 2 ^ k) (2 ^ 1074) in
        let some : 0 < q = omega (arith, half-bounds) in
        let p : T (positive y) = positive_of_value y (q * 2 ^ k) (2 ^ 1074) wide_value (mul-pos some (pow_pos k)) in
        ap narrow_of (sym wide-root) ∙ narrow-is y p ∙ round_same binary32 false (num y) (den y) (q * 2 ^ k) (2 ^ 1074) (den_pos y) (pow_pos 1074) (value→cross y (q * 2 ^ k) (2 ^ 1074) wide_value)
