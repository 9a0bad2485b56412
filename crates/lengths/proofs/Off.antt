-- The f32 nearest to 53 digits times a power of two, with 24 digits or, below 2 ^ -126, with fewer. Assumes nothing.
use mathlib.Core.Path.{◌≡◌, refl, sym, ap, ◌∙◌, subst}
use mathlib.Core.Logic.{inl, inr}
use mathlib.Core.Bool.{false}
use Prim.Native.Nat.{ℕ, ◌+◌, ◌-◌, ◌*◌, ◌/◌, ◌%◌, ◌^◌, ◌≤◌, ◌<◌, compare}
use native.Mathlib.Nat.{le_trans, lt_of_lt_of_le, lt_of_le_of_lt, mod-eq_of_lt, mod-lt, one-mul, mul-one, mul-le-mul_left, div-lt_iff_lt-mul, div-add-mod'}
use native.Mathlib.Omega.{arith}
use lib.Dec.{lit≤, lit<}
use lib.Pow.{pow-add, pow_pos, pow_mono}
use lib.Ieee.{binary32, of_bits, round, nearest}
use lib.Ieee.Fits.{nearest-le}
use lib.Ieee.Nearest.{nearest-ge}
use Rattle.floats.specs.Patterns.{hidden, narrow_step}
use Rattle.decimal_rounding.proofs.Pattern.{units-pattern}
use Rattle.decimal_rounding.proofs.Wide.{joined}
use Rattle.lengths.proofs.Narrow.{round-at}

-- ---- a shift of 1
pub shifted : (j : ℕ) → j ≤ 55 → 1 * 2 ^ j % 2 ^ 64 ≡ 2 ^ j
shifted j h = ap (λ (x : ℕ). x % 2 ^ 64) (one-mul (2 ^ j)) ∙ mod-eq_of_lt {n = 2 ^ j} {m = 2 ^ 64} (lt_of_le_of_lt (pow_mono h) (lit< tt))

apart : (q k c : ℕ) → q * 2 ^ k * 2 ^ 149 ≡ (q / c * c + q % c) * 2 ^ (k + 149)
apart q k c = joined q k 149 ∙ ap (λ (x : ℕ). x * 2 ^ (k + 149)) (sym (div-add-mod' q c))

-- ---- fewer than 24 digits
module _ (q k c : ℕ) (few : q < 2 ^ 53) (least : 870 ≤ k) (most : k < 896) (e : c ≡ 2 ^ (925 - k)) where
  pub step-pos : 0 < c
  step-pos = subst (λ (x : ℕ). 0 < x) (sym e) (pow_pos (925 - k))

  pub step_small : c ≤ 2 ^ 55
  step_small = let h : 925 - k ≤ 55 = omega arith in subst (λ (x : ℕ). x ≤ 2 ^ 55) (sym e) (pow_mono h)

  step-large : 2 ^ 29 ≤ c
  step-large = let h : 29 ≤ 925 - k = omega arith in subst (λ (x : ℕ). 2 ^ 29 ≤ x) (sym e) (pow_mono h)

  pub kept_small : q / c < 2 ^ 24
  kept_small = (div-lt_iff_lt-mul step-pos).1 (lt_of_lt_of_le few (mul-le-mul_left (2 ^ 24) step-large))

  pub rest-small : q % c < c
  rest-small = mod-lt q step-pos

  steps : 2 ^ 1074 * 2 ^ 0 ≡ c * 2 ^ (k + 149)
  steps =
      let h : 925 - k + (k + 149) ≡ 1074 = omega arith in
      mul-one (2 ^ 1074) ∙ sym (ap (λ (x : ℕ). x * 2 ^ (k + 149)) e ∙ sym (pow-add 2 (925 - k) (k + 149)) ∙ ap (λ (x : ℕ). 2 ^ x) h)

  pub rounded-small : of_bits binary32 (nearest (q / c) (compare (q % c * 2) c)) ≡ round binary32 false (q * 2 ^ k) (2 ^ 1074)
  rounded-small =
      let m = nearest (q / c) (compare (q % c * 2) c) in
      let h : m ≤ 2 ^ 24 = le_trans (nearest-le (q / c) (compare (q % c * 2) c)) kept_small in
      sym
      (round-at (q * 2 ^ k) (2 ^ 1074) 0 (q / c) (q % c) c (2 ^ (k + 149)) (pow_pos 1074) (pow_pos (k + 149)) kept_small (inr refl) rest-small (apart q k c) steps
      ∙ units-pattern false m 0 h (inr refl) (lit≤ tt)
      ∙ ap (of_bits binary32) (let z : 0 + 0 * hidden + m ≡ m = omega arith in z))

-- ---- 24 digits
module _ (q k : ℕ) (long : 2 ^ 52 ≤ q) (few : q < 2 ^ 53) (least : 896 ≤ k) (most : k ≤ 1149) where
  steps-large : 2 ^ 1074 * 2 ^ (k - 896) ≡ narrow_step * 2 ^ (k + 149)
  steps-large =
      let h : 1074 + (k - 896) ≡ 29 + (k + 149) = omega arith in
      sym (pow-add 2 1074 (k - 896)) ∙ ap (λ (x : ℕ). 2 ^ x) h ∙ pow-add 2 29 (k + 149)

  pub rounded-large : of_bits binary32 ((k - 896) * hidden + nearest (q / narrow_step) (compare (q % narrow_step * 2) narrow_step)) ≡ round binary32 false (q * 2 ^ k) (2 ^ 1074)
  rounded-large =
      let o = compare (q % narrow_step * 2) narrow_step in
      let m = nearest (q / narrow_step) o in
      let a : q / narrow_step < 2 ^ 24 = omega arith in
      let b : 2 ^ 23 ≤ q / narrow_step = omega arith in
      let h : m ≤ 2 ^ 24 = le_trans (nearest-le (q / narrow_step) o) a in
      let g : 2 ^ 23 ≤ m = le_trans b (nearest-ge (q / narrow_step) o) in
      sym
      (round-at (q * 2 ^ k) (2 ^ 1074) (k - 896) (q / narrow_step) (q % narrow_step) narrow_step (2 ^ (k + 149)) (pow_pos 1074) (pow_pos (k + 149)) a (inl b) (omega arith) (apart q k narrow_step) steps-large
      ∙ units-pattern false m (k - 896) h (inl g) (omega arith)
      ∙ ap (of_bits binary32) (let z : 0 + (k - 896) * hidden + m ≡ (k - 896) * hidden + m = omega arith in z))
