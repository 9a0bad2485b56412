-- A product cut by its last binary digits is rounded by them, whatever lies within 5 above it. Multiplied by g, the number is n, in units of u; a step of
-- the floats is t, which is 2 ^ dropped units, g times larger. Assumes nothing.
use Prim.Native.Nat.{ℕ, zero, suc, ◌+◌, ◌-◌, ◌*◌, ◌/◌, ◌%◌, ◌^◌, ◌≤◌, ◌<◌}
use mathlib.Core.Path.{◌≡◌, refl, ap, sym, ◌∙◌, subst}
use mathlib.Core.Logic.{◌⊎◌, inl, inr, ⊎_elim}
use mathlib.Core.Bool.{Bool, cond}
use native.Mathlib.Nat.{add-mul, mul_assoc, mul_comm, mul_right_comm, div-add-mod', suc-mul, one-mul, zero-mul, add_assoc}
use native.Mathlib.Nat.{mul-le-mul_right, le_of_mul-le-mul_right, lt_of_mul-lt-mul_right, mod-eq_of_lt, le-div_iff_mul-le, le_trans, le_of_eq, mul-pos, mod-lt, lt_of_le_of_lt, div-mul-le_self}
use native.Mathlib.Omega.{arith}
use lib.Dec.{lit≤}
use lib.Pow.{pow_pos, pow-lt, pow_mono, pow-add, shr_lt}
use lib.Ieee.{binary32, round, of_bits}
use Rattle.floats.specs.Patterns.{hidden, sign_place, infinity_bits}
use Rattle.decimal_rounding.proofs.Halves.{near_down}
use Rattle.decimal_rounding.proofs.Middles.{between-middles}
use Rattle.decimal_rounding.proofs.Pattern.{units-pattern}
use Rattle.decimal_product.specs.Near.{Cell, Bracket}

-- ---- the parts of the product

half_of : (k : ℕ) → 0 < k → 2 ^ (k - 1) * 2 ≡ 2 ^ k
half_of k h = let e : k - 1 + 1 ≡ k = omega arith in sym (pow-add 2 (k - 1) 1) ∙ ap (λ (i : ℕ). 2 ^ i) e

pub record Parts (product dropped : ℕ) : Type 0 where
  pub back : product / 2 ^ dropped * 2 ^ dropped % 2 ^ 64 ≡ product / 2 ^ dropped * 2 ^ dropped
  pub under : product / 2 ^ dropped * 2 ^ dropped ≤ product
  pub rest_lt : product - product / 2 ^ dropped * 2 ^ dropped < 2 ^ dropped
  pub half : 1 * 2 ^ (dropped - 1) % 2 ^ 64 ≡ 2 ^ (dropped - 1)
  pub twice : 2 ^ (dropped - 1) * 2 ≡ 2 ^ dropped
  pub wide : 32 ≤ 2 ^ (dropped - 1)
  pub narrow : 2 ^ (dropped - 1) ≤ 2 ^ 60
  pub few : product / 2 ^ dropped < 2 ^ 24

pub parts : (product dropped : ℕ) → product < 2 ^ 64 → 35 ≤ dropped → dropped ≤ 61 → product < 2 ^ (24 + dropped) → Parts product dropped
parts product dropped h l m b =
    let u = product / 2 ^ dropped * 2 ^ dropped in
    let d = div-mul-le_self product (2 ^ dropped) in
    let e = div-add-mod' product (2 ^ dropped) in
    let r = mod-lt product (pow_pos dropped) in
    let five : 5 ≤ dropped - 1 = omega arith in
    let sixty : dropped - 1 ≤ 60 = omega arith in
    let small : dropped - 1 < 64 = omega arith in
    record {
      back = mod-eq_of_lt (lt_of_le_of_lt d h);
      under = d;
      rest_lt = omega (arith, d, e, r);
      half = ap (λ (z : ℕ). z % 2 ^ 64) (one-mul (2 ^ (dropped - 1))) ∙ mod-eq_of_lt (pow-lt small);
      twice = half_of dropped (omega arith);
      wide = pow_mono five;
      narrow = pow_mono sixty;
      few = shr_lt 24 dropped b;
    }

-- ---- the number among the steps

pos-right : (a b : ℕ) → 0 < a * b → 0 < b
pos-right a zero h = absurd (omega (arith, mul_comm a 0, zero-mul a))
pos-right a (suc b) h = omega arith

-- the product is m steps and a rest, and half a step is half units
module _ (product n m rest half p u t g : ℕ) (G : 0 < g) (T : 0 < t) (split : product ≡ m * p + rest) (twice : half * 2 ≡ p) (e : p * u ≡ t * g)
    (lo : product * u ≤ n * g) (hi : n * g < (product + 5) * u) where
  m-steps : m * p * u ≡ m * t * g
  m-steps = mul_assoc m p u ∙ ap (λ (z : ℕ). m * z) e ∙ sym (mul_assoc m t g)

  product_is : product * u ≡ m * t * g + rest * u
  product_is = ap (λ (z : ℕ). z * u) split ∙ add-mul (m * p) rest u ∙ ap (λ (z : ℕ). z + rest * u) m-steps

  past_is : (product + 5) * u ≡ m * t * g + rest * u + 5 * u
  past_is = add-mul product 5 u ∙ ap (λ (z : ℕ). z + 5 * u) product_is

  half_is : half * u * 2 ≡ t * g
  half_is = mul_right_comm half u 2 ∙ ap (λ (z : ℕ). z * u) twice ∙ e

  u-pos : 0 < u
  u-pos = pos-right p u (subst (λ (z : ℕ). 0 < z) (sym e) (mul-pos T G))

  pub from_step : m * t ≤ n
  from_step = le_of_mul-le-mul_right (omega (arith, lo, product_is)) G

  -- the middle, multiplied by g
  middle-is : (2 * (m * t) + t) * g ≡ 2 * (m * t * g) + t * g
  middle-is = add-mul (2 * (m * t)) t g ∙ ap (λ (z : ℕ). z + t * g) (mul_assoc 2 (m * t) g)

  twice-is : 2 * n * g ≡ 2 * (n * g)
  twice-is = mul_assoc 2 n g

  next-middle-is : (2 * (m * t + t) + t) * g ≡ 2 * (m * t * g + t * g) + t * g
  next-middle-is = add-mul (2 * (m * t + t)) t g ∙ ap (λ (z : ℕ). z + t * g) (mul_assoc 2 (m * t + t) g ∙ ap (λ (z : ℕ). 2 * z) (add-mul (m * t) t g))

  pub under-middle : rest + 5 ≤ half → 2 * n < 2 * (m * t) + t
  under-middle h =
      let w : (rest + 5) * u ≤ half * u = mul-le-mul_right u h in
      lt_of_mul-lt-mul_right g (omega (arith, middle-is, twice-is, hi, past_is, half_is, w, add-mul rest 5 u))

  pub over-middle : half < rest → 2 * (m * t) + t < 2 * n
  over-middle h =
      let w : suc half * u ≤ rest * u = mul-le-mul_right u h in
      lt_of_mul-lt-mul_right g (omega (arith, middle-is, twice-is, lo, product_is, half_is, w, suc-mul half u, u-pos))

  -- the rest is less than a step, so that less than the next step's half is above
  pub under-next-middle : rest < p → 32 ≤ half → 2 * n < 2 * (m * t + t) + t
  under-next-middle h l =
      let v : rest * u ≤ p * u = mul-le-mul_right u (omega arith) in
      let w : 32 * u ≤ half * u = mul-le-mul_right u l in
      lt_of_mul-lt-mul_right g (omega (arith, hi, past_is, half_is, e, v, w, u-pos, twice-is, next-middle-is))

  pub to-next : rest + 5 ≤ p → n < m * t + t
  to-next h =
      let w : (rest + 5) * u ≤ p * u = mul-le-mul_right u h in
      lt_of_mul-lt-mul_right g (omega (arith, hi, past_is, e, w, add-mul rest 5 u, add-mul (m * t) t g))

-- ---- the three answers

module _ (product dropped k : ℕ) (P : Parts product dropped) (K : k ≤ 253) (F : (2 ^ (23 + dropped) ≤ product) ⊎ (k ≡ 0)) where
  abbrev m : ℕ
  m = product / 2 ^ dropped

  abbrev rest : ℕ
  rest = product - product / 2 ^ dropped * 2 ^ dropped

  abbrev half : ℕ
  half = 2 ^ (dropped - 1)

  full : (2 ^ 23 ≤ m) ⊎ (k ≡ 0)
  full = ⊎_elim (λ h. inl ((le-div_iff_mul-le (pow_pos dropped)).1 (le_trans (le_of_eq (sym (pow-add 2 23 dropped))) h))) (λ h. inr h) F

  module _ (s : Bool) (num den u g : ℕ) (D : 0 < den) (G : 0 < g) (e : 2 ^ dropped * u ≡ den * 2 ^ k * g) (B : Bracket product u g num) where
    t-pos : 0 < den * 2 ^ k
    t-pos = mul-pos D (pow_pos k)

    split : product ≡ m * 2 ^ dropped + rest
    split = omega (arith, P.under)

    pub cut_down : rest + 5 ≤ half → (k * hidden + m ≤ infinity_bits) × (round binary32 s num den ≡ of_bits binary32 (cond s sign_place 0 + (k * hidden + m)))
    cut_down h = (
      omega (arith, P.few),
      near_down binary32 s num den m k D P.few full (from_step product (num * 2 ^ 149) m rest half (2 ^ dropped) u (den * 2 ^ k) g G t-pos split P.twice e B.at_least B.below)
          (inl (under-middle product (num * 2 ^ 149) m rest half (2 ^ dropped) u (den * 2 ^ k) g G t-pos split P.twice e B.at_least B.below h))
          ∙ units-pattern s m k (omega (arith, P.few)) full K ∙ ap (λ (z : ℕ). of_bits binary32 z) (add_assoc (cond s sign_place 0) (k * hidden) m),
    )

    pub cut_up : half < rest → (k * hidden + m + 1 ≤ infinity_bits) × (round binary32 s num den ≡ of_bits binary32 (cond s sign_place 0 + (k * hidden + m + 1)))
    cut_up h = (
      omega (arith, P.few),
      between-middles s num den m k D P.few full K (num * 2 ^ 149) (den * 2 ^ k) refl refl
          (over-middle product (num * 2 ^ 149) m rest half (2 ^ dropped) u (den * 2 ^ k) g G t-pos split P.twice e B.at_least B.below h)
          (under-next-middle product (num * 2 ^ 149) m rest half (2 ^ dropped) u (den * 2 ^ k) g G t-pos split P.twice e B.at_least B.below P.rest_lt P.wide)
          ∙ units-pattern s (suc m) k P.few (⊎_elim (λ (q : 2 ^ 23 ≤ m). inl (omega arith)) (λ q. inr q) full) K ∙ ap (λ (z : ℕ). of_bits binary32 z) (omega arith),
    )

    pub cut-between : rest ≤ half → Cell m k num den
    cut-between h =
        record {
          few = P.few;
          full = full;
          low = K;
          at_least = from_step product (num * 2 ^ 149) m rest half (2 ^ dropped) u (den * 2 ^ k) g G t-pos split P.twice e B.at_least B.below;
          below_next = to-next product (num * 2 ^ 149) m rest half (2 ^ dropped) u (den * 2 ^ k) g G t-pos split P.twice e B.at_least B.below (omega (arith, P.twice, P.wide));
        }
