-- A float above 0 rounded to f32: the order is kept, and of an f64's pattern the last 29 digits are rounded off. Assumes nothing.
use mathlib.Core.Path.{◌≡◌, refl, sym, ap, ◌∙◌, subst}
use mathlib.Core.Logic.{◌⊎◌, inl}
use mathlib.Core.Bool.{true, false}
use Prim.Native.Nat.{ℕ, suc, ◌+◌, ◌-◌, ◌*◌, ◌/◌, ◌%◌, ◌^◌, ◌≤◌, ◌<◌, compare, Ordering}
use native.Mathlib.Nat.{mul-lt-mul_of_pos_right, mul_assoc, mul_right_comm, add-mul}
use native.Mathlib.Omega.{arith}
use lib.Dec.{T}
use lib.Pow.{pow-add, pow_pos}
use lib.Ieee.{Float, nan, inf, fin, binary32, binary64, of_bits, round, fits, le, units, nearest}
use lib.Ieee.Fits.{round-fits}
use lib.Ieee.Order.{round_mono}
use lib.Ieee.Positive.{num, den, den_pos, positive, value→cross, le→cross}
use lib.Ieee.Scale.{round_same}
use Rattle.floats.specs.Patterns.{narrow_step, narrow_half}
use Rattle.decimal_rounding.proofs.Cell.{cell}
use Rattle.decimal_rounding.proofs.Compares.{compare-lt, compare-gt, compare-scale}
use Rattle.decimal_rounding.proofs.Pattern.{units-pattern}
use Rattle.lengths.specs.Length.{narrow_of}
use Rattle.decimal_rounding.proofs.Wide.{digits_of, power_of, pattern-value, pattern-positive, joined}

pub narrow-is : (x : Float) → T (positive x) → narrow_of x ≡ round binary32 false (num x) (den x)
unfolding narrow_of
narrow-is nan p = absurd p
narrow-is (inf s) p = absurd p
narrow-is (fin true m e) p = absurd p
narrow-is (fin false m e) p = refl

pub narrow-fits : (x : Float) → T (positive x) → T (fits binary32 (narrow_of x))
narrow-fits x p = subst (λ (y : Float). T (fits binary32 y)) (sym (narrow-is x p)) (round-fits binary32 false (num x) (den x))

pub narrow-mono : (x y : Float) → T (positive x) → T (positive y) → T (le x y) → T (le (narrow_of x) (narrow_of y))
narrow-mono x y p q h =
    subst (λ (z : Float). T (le z (narrow_of y))) (sym (narrow-is x p))
    (subst (λ (z : Float). T (le (round binary32 false (num x) (den x)) z)) (sym (narrow-is y q)) (round_mono binary32 (num x) (den x) (num y) (den y) (den_pos x) (den_pos y) (le→cross x y p q h)))

-- ---- a fraction of which m * c + rest is a multiple, with c to a step of f32: the rest is rounded off
pub round-at : (num den k m rest c u : ℕ) → 0 < den → 0 < u → m < 2 ^ 24 → (2 ^ 23 ≤ m) ⊎ (k ≡ 0) → rest < c
    → num * 2 ^ 149 ≡ (m * c + rest) * u → den * 2 ^ k ≡ c * u → round binary32 false num den ≡ units binary32 false (nearest m (compare (rest * 2) c)) k
round-at num den k m rest c u d p few full r en et =
    let e : num * 2 ^ 149 ≡ m * (den * 2 ^ k) + rest * u = en ∙ add-mul (m * c) rest u ∙ ap (λ (x : ℕ). x + rest * u) (mul_assoc m c u ∙ ap (λ (x : ℕ). m * x) (sym et)) in
    let h : rest * u < den * 2 ^ k = subst (λ (x : ℕ). rest * u < x) (sym et) (mul-lt-mul_of_pos_right r p) in
    cell binary32 false num den m k (rest * u) d few e h full
    ∙ ap (λ (x : ℕ). units binary32 false (nearest m (compare x (den * 2 ^ k))) k) (mul_right_comm rest u 2)
    ∙ ap (λ (x : ℕ). units binary32 false (nearest m (compare (rest * 2 * u) x)) k) et
    ∙ ap (λ (o : Ordering). units binary32 false (nearest m o) k) (compare-scale (rest * 2) c u p)

-- ---- of an f64's 53 digits the last 29 are rounded off
module _ (b : ℕ) (low : 0x3810000000000000 ≤ b) (high : b < 0x47F0000000000000) where
  as-fraction : narrow_of (of_bits binary64 b) ≡ round binary32 false (digits_of b * 2 ^ power_of b) (2 ^ 1074)
  as-fraction =
      let x = of_bits binary64 b in
      narrow-is x (pattern-positive b (omega arith) (omega arith))
      ∙ round_same binary32 false (num x) (den x) (digits_of b * 2 ^ power_of b) (2 ^ 1074) (den_pos x) (pow_pos 1074) (value→cross x (digits_of b * 2 ^ power_of b) (2 ^ 1074) (pattern-value b (omega arith) (omega arith)))

  n-is : digits_of b * 2 ^ power_of b * 2 ^ 149 ≡ (digits_of b / narrow_step * narrow_step + digits_of b % narrow_step) * 2 ^ (power_of b + 149)
  n-is =
      let e : digits_of b ≡ digits_of b / narrow_step * narrow_step + digits_of b % narrow_step = omega arith in
      joined (digits_of b) (power_of b) 149 ∙ ap (λ (x : ℕ). x * 2 ^ (power_of b + 149)) e

  t-is : 2 ^ 1074 * 2 ^ (power_of b - 896) ≡ narrow_step * 2 ^ (power_of b + 149)
  t-is =
      let e : 1074 + (power_of b - 896) ≡ 29 + (power_of b + 149) = omega arith in
      sym (pow-add 2 1074 (power_of b - 896)) ∙ ap (λ (x : ℕ). 2 ^ x) e ∙ pow-add 2 29 (power_of b + 149)

  rounded-off : narrow_of (of_bits binary64 b) ≡ units binary32 false (nearest (digits_of b / narrow_step) (compare (digits_of b % narrow_step * 2) narrow_step)) (power_of b - 896)
  rounded-off =
      as-fraction
      ∙ round-at (digits_of b * 2 ^ power_of b) (2 ^ 1074) (power_of b - 896) (digits_of b / narrow_step) (digits_of b % narrow_step) narrow_step (2 ^ (power_of b + 149))
      (pow_pos 1074) (pow_pos (power_of b + 149)) (omega arith) (inl (omega arith)) (omega arith) n-is t-is

  pub narrow-down : b % narrow_step < narrow_half → narrow_of (of_bits binary64 b) ≡ of_bits binary32 (b / narrow_step - 7516192768)
  narrow-down h =
      let m = digits_of b / narrow_step in
      rounded-off
      ∙ ap (λ (o : Ordering). units binary32 false (nearest m o) (power_of b - 896)) (compare-lt (digits_of b % narrow_step * 2) narrow_step (omega arith))
      ∙ units-pattern false m (power_of b - 896) (omega arith) (inl (omega arith)) (omega arith)
      ∙ ap (of_bits binary32) (omega arith)

  pub narrow-up : narrow_half < b % narrow_step → narrow_of (of_bits binary64 b) ≡ of_bits binary32 (b / narrow_step + 1 - 7516192768)
  narrow-up h =
      let m = digits_of b / narrow_step in
      rounded-off
      ∙ ap (λ (o : Ordering). units binary32 false (nearest m o) (power_of b - 896)) (compare-gt (digits_of b % narrow_step * 2) narrow_step (omega arith))
      ∙ units-pattern false (suc m) (power_of b - 896) (omega arith) (inl (omega arith)) (omega arith)
      ∙ ap (of_bits binary32) (omega arith)
