-- A quotient's f64 with its last 29 digits rounded off is the quotient's f32, unless they are the middle: what lies past the middle of two f32, which is an f64, is
-- not rounded to this side of it. Assumes nothing.
use Prim.Native.Nat.{ℕ, suc, ◌+◌, ◌-◌, ◌*◌, ◌/◌, ◌%◌, ◌^◌, ◌≤◌, ◌<◌}
use mathlib.Core.Path.{◌≡◌, refl, ap, ap₂, sym, ◌∙◌, subst}
use mathlib.Core.Logic.{◌⊎◌, inl, inr, ⊎_elim}
use mathlib.Core.Bool.{Bool, false, cond}
use native.Mathlib.Nat.{mul_assoc, mul_comm, mul-pos, mul-le-mul_right, mul-lt-mul_of_pos_right, lt_of_lt_of_le, lt_of_not-le, not-le_of_lt, le_of_mul-le-mul_right, lt_of_mul-lt-mul_right, pow-suc, add-mul, one-mul, suc-mul}
use native.Mathlib.Omega.{arith}
use lib.Dec.{T}
use lib.Pow.{pow_pos, pow_mono, pow-add, shl_lt}
use lib.Ieee.{Float, binary32, binary64, round, of_bits, to_bits}
use lib.Ieee.Bits.{of_bits-to_bits}
use lib.Ieee.Fits.{round-fits}
use lib.Ieee.Exact.{HasValue, round_exact}
use lib.Ieee.Order.{round_mono}
use lib.Ieee.Positive.{positive, positive_of_value, values_of_le}
use Rattle.floats.specs.Patterns.{hidden, sign_place, wide_hidden, wide_infinity_bits, narrow_step, narrow_half}
use Rattle.decimal_rounding.specs.Wide.{narrowed_of}
use Rattle.decimal_rounding.proofs.Compares.{below_or_not}
use Rattle.decimal_rounding.proofs.Halves.{near_down, near_up}
use Rattle.decimal_rounding.proofs.Pattern.{units-pattern}
use Rattle.decimal_rounding.proofs.Wide.{digits_of, power_of, pattern-value}
use Rattle.decimal.specs.Bits.{Nearest, Tells}

abbrev sized : ℕ → ℕ
sized c = digits_of c * 2 ^ power_of c

-- a pattern with its last 29 digits rounded off, in steps of f32; and a step's 24 digits and the power of two that they are taken with
abbrev step_of : ℕ → ℕ
step_of b = (b + narrow_half) / narrow_step

abbrev single_digits : ℕ → ℕ
single_digits t = t % hidden + hidden

abbrev single_power : ℕ → ℕ
single_power t = t / hidden - 897

-- ---- patterns in order

sized-pos : (c : ℕ) → 0 < sized c
sized-pos c = mul-pos (let p : 0 < digits_of c = omega arith in p) (pow_pos (power_of c))

sized-lt : (c b : ℕ) → wide_hidden ≤ c → c < b → sized c < sized b
sized-lt c b l h = go (below_or_not (power_of c) (power_of b))
  where
    go : (power_of c < power_of b) ⊎ (power_of b ≤ power_of c) → sized c < sized b
    go (inl less) =
        let next : suc (power_of c) ≤ power_of b = less in
        let twice : wide_hidden * 2 ^ suc (power_of c) ≡ 0x20000000000000 * 2 ^ power_of c = ap (λ (z : ℕ). wide_hidden * z) (pow-suc 2 (power_of c)) ∙ omega arith in
        let below : digits_of c * 2 ^ power_of c < 0x20000000000000 * 2 ^ power_of c = mul-lt-mul_of_pos_right (let p : digits_of c < 0x20000000000000 = omega arith in p) (pow_pos (power_of c)) in
        let least : wide_hidden * 2 ^ power_of b ≤ digits_of b * 2 ^ power_of b = mul-le-mul_right (2 ^ power_of b) (let p : wide_hidden ≤ digits_of b = omega arith in p) in
        let up = pow_mono next in
        omega (arith, twice, below, least, up)
    go (inr more) =
        let same : power_of b ≡ power_of c = omega arith in
        let less : digits_of c < digits_of b = omega arith in
        subst (λ (k : ℕ). digits_of c * 2 ^ power_of c < digits_of b * 2 ^ k) (sym same) (mul-lt-mul_of_pos_right less (pow_pos (power_of c)))

-- a pattern's own value is not rounded
abbrev own_of : ℕ → Float
own_of c = round binary64 false (sized c) (2 ^ 1074)

pub own : (c : ℕ) → c < wide_infinity_bits → HasValue (own_of c) false (sized c) (2 ^ 1074)
own c h =
    let few : digits_of c < 2 ^ 53 = omega arith in
    let fits : 53 + power_of c ≤ 2098 = omega arith in
    round_exact binary64 false (sized c) (2 ^ 1074) (digits_of c) (power_of c) (pow_pos 1074) few (lt_of_lt_of_le (shl_lt 53 (power_of c) few) (pow_mono fits)) refl

own-positive : (c : ℕ) → c < wide_infinity_bits → T (positive (own_of c))
own-positive c h = positive_of_value (own_of c) (sized c) (2 ^ 1074) (own c h) (sized-pos c)

module _ (w d b : ℕ) (D : 0 < d) (is : round binary64 false w d ≡ of_bits binary64 b) (low : 0x3E00000000000000 ≤ b) (high : b < 0x4400000000000000) where
  value : HasValue (round binary64 false w d) false (sized b) (2 ^ 1074)
  value = subst (λ (x : Float). HasValue x false (sized b) (2 ^ 1074)) (sym is) (pattern-value b (omega arith) (omega arith))

  over_zero : T (positive (round binary64 false w d))
  over_zero = positive_of_value (round binary64 false w d) (sized b) (2 ^ 1074) value (sized-pos b)

  -- a pattern below the quotient's is below the fraction, and one above it above
  above : (c : ℕ) → wide_hidden ≤ c → c < b → sized c * d < w * 2 ^ 1074
  above c l h =
      lt_of_not-le
      (λ (g : w * 2 ^ 1074 ≤ sized c * d).
      let u : c < wide_infinity_bits = omega arith in
      not-le_of_lt (sized-lt c b l h)
      (le_of_mul-le-mul_right
      (values_of_le (round binary64 false w d) (own_of c) (sized b) (2 ^ 1074) (sized c) (2 ^ 1074) over_zero (own-positive c u) value (own c u) (round_mono binary64 w d (sized c) (2 ^ 1074) D (pow_pos 1074) g))
      (pow_pos 1074)))

  below : (c : ℕ) → b < c → c < wide_infinity_bits → w * 2 ^ 1074 < sized c * d
  below c h u =
      lt_of_not-le
      (λ (g : sized c * d ≤ w * 2 ^ 1074).
      not-le_of_lt (sized-lt b c (omega arith) h)
      (le_of_mul-le-mul_right
      (values_of_le (own_of c) (round binary64 false w d) (sized c) (2 ^ 1074) (sized b) (2 ^ 1074) (own-positive c u) over_zero (own c u) value (round_mono binary64 (sized c) (2 ^ 1074) w d (pow_pos 1074) D g))
      (pow_pos 1074)))

  -- ---- the fraction among the steps of f32

  -- the middle of q and q + 1 steps of 2 ^ k smallest values, which a pattern has
  middle : (c q k : ℕ) → digits_of c ≡ q * narrow_step + narrow_half → power_of c ≡ k + 896 → sized c * d ≡ (2 * (q * (d * 2 ^ k)) + d * 2 ^ k) * 2 ^ 924
  middle c q k e p =
      let P = 2 ^ k in
      let split : 2 ^ (k + 896) ≡ P * 2 ^ 896 = pow-add 2 k 896 in
      ap₂ (λ (x : ℕ) (y : ℕ). x * 2 ^ y * d) e p
      ∙ ap (λ (z : ℕ). (q * narrow_step + narrow_half) * z * d) split
      ∙ scaled q P (2 ^ 896)
    where
      scaled : (q P M : ℕ) → (q * narrow_step + narrow_half) * (P * M) * d ≡ (2 * (q * (d * P)) + d * P) * (narrow_half * M)
      scaled q P M =
          let u : q * narrow_step + narrow_half ≡ (2 * q + 1) * narrow_half = omega arith in
          let v : (2 * q + 1) * (d * P) ≡ 2 * (q * (d * P)) + d * P = add-mul (2 * q) 1 (d * P) ∙ ap₂ ◌+◌ (mul_assoc 2 q (d * P)) (one-mul (d * P)) in
          let swap : narrow_half * (P * M) ≡ P * (narrow_half * M) = sym (mul_assoc narrow_half P M) ∙ ap (λ (z : ℕ). z * M) (mul_comm narrow_half P) ∙ mul_assoc P narrow_half M in
          ap (λ (z : ℕ). z * (P * M) * d) u
          ∙ ap (λ (z : ℕ). z * d) (mul_assoc (2 * q + 1) narrow_half (P * M))
          ∙ mul_assoc (2 * q + 1) (narrow_half * (P * M)) d
          ∙ ap (λ (z : ℕ). (2 * q + 1) * z) (mul_comm (narrow_half * (P * M)) d ∙ ap (λ (z : ℕ). d * z) swap ∙ sym (mul_assoc d P (narrow_half * M)))
          ∙ sym (mul_assoc (2 * q + 1) (d * P) (narrow_half * M))
          ∙ ap (λ (z : ℕ). z * (narrow_half * M)) v

  twice : w * 2 ^ 1074 ≡ 2 * (w * 2 ^ 149) * 2 ^ 924
  twice = sym (ap (λ (z : ℕ). z * 2 ^ 924) (mul_comm 2 (w * 2 ^ 149) ∙ mul_assoc w (2 ^ 149) 2) ∙ mul_assoc w (2 ^ 150) (2 ^ 924))

  module _ (no_tie : b % narrow_step ≡ narrow_half → ⊥) where
    -- past the middle below, and short of the middle above
    past : (q k : ℕ) → q ≡ single_digits (step_of b - 1) → k ≡ single_power (step_of b - 1) → 2 * (q * (d * 2 ^ k)) + d * 2 ^ k < 2 * (w * 2 ^ 149)
    past q k e f =
        let c = step_of b * narrow_step - narrow_half in
        let m = middle c q k (omega arith) (omega arith) in
        let a = above c (omega arith) (omega arith) in
        lt_of_mul-lt-mul_right (2 ^ 924) (subst (λ (z : ℕ). (2 * (q * (d * 2 ^ k)) + d * 2 ^ k) * 2 ^ 924 < z) twice (subst (λ (z : ℕ). z < w * 2 ^ 1074) m a))

    short : (q k : ℕ) → q ≡ single_digits (step_of b) → k ≡ single_power (step_of b) → 2 * (w * 2 ^ 149) < 2 * (q * (d * 2 ^ k)) + d * 2 ^ k
    short q k e f =
        let c = step_of b * narrow_step + narrow_half in
        let m = middle c q k (omega arith) (omega arith) in
        let a = below c (omega arith) (omega arith) in
        lt_of_mul-lt-mul_right (2 ^ 924) (subst (λ (z : ℕ). z < (2 * (q * (d * 2 ^ k)) + d * 2 ^ k) * 2 ^ 924) twice (subst (λ (z : ℕ). w * 2 ^ 1074 < z) m a))

    -- the next step of the one is the other
    step : (q k p j : ℕ) → ((p ≡ suc q) × (j ≡ k)) ⊎ ((q ≡ 16777215) × (p ≡ hidden) × (j ≡ suc k)) → p * (d * 2 ^ j) ≡ q * (d * 2 ^ k) + d * 2 ^ k
    step q k p j (inl e) = ap₂ (λ (x : ℕ) (y : ℕ). x * (d * 2 ^ y)) e.0 e.1 ∙ suc-mul q (d * 2 ^ k)
    step q k p j (inr e) =
        let u = d * 2 ^ k in
        let v : d * 2 ^ suc k ≡ u * 2 = ap (λ (z : ℕ). d * z) (pow-suc 2 k) ∙ sym (mul_assoc d (2 ^ k) 2) in
        ap₂ (λ (x : ℕ) (y : ℕ). x * (d * 2 ^ y)) e.1 e.2 ∙ ap (λ (z : ℕ). hidden * z) v ∙ omega (arith, ap (λ (z : ℕ). z * u) e.0)

    narrowed : Nearest w d (narrowed_of b)
    narrowed =
        let q = single_digits (step_of b - 1) in
        let k = single_power (step_of b - 1) in
        let p = single_digits (step_of b) in
        let j = single_power (step_of b) in
        record {
          finite_or_infinite = omega arith;
          is = λ s. go s q k p j refl refl refl refl (below_or_not (w * 2 ^ 149) (p * (d * 2 ^ j)));
        }
      where
        which : (t q k p j : ℕ) → 8128000000 ≤ t → q ≡ single_digits (t - 1) → k ≡ single_power (t - 1) → p ≡ single_digits t → j ≡ single_power t
            → ((p ≡ suc q) × (j ≡ k)) ⊎ ((q ≡ 16777215) × (p ≡ hidden) × (j ≡ suc k))
        which t q k p j l a b c e = ⊎_elim (λ (h : 0 < t % hidden). inl (omega arith, omega arith)) (λ (h : t % hidden ≤ 0). inr (omega arith, omega arith, omega arith)) (below_or_not 0 (t % hidden))

        go : (s : Bool) (q k p j : ℕ) → q ≡ single_digits (step_of b - 1) → k ≡ single_power (step_of b - 1)
            → p ≡ single_digits (step_of b) → j ≡ single_power (step_of b)
            → (w * 2 ^ 149 < p * (d * 2 ^ j)) ⊎ (p * (d * 2 ^ j) ≤ w * 2 ^ 149)
            → round binary32 s w d ≡ of_bits binary32 (cond s sign_place 0 + narrowed_of b)
        go s q k p j eq ek ep ej (inl under) =
            near_up binary32 s w d q k D (omega arith) (inl (omega arith)) (subst (λ (z : ℕ). w * 2 ^ 149 < z) (step q k p j (which (step_of b) q k p j (omega arith) eq ek ep ej)) under) (inl (past q k eq ek))
            ∙ units-pattern s (suc q) k (omega arith) (inl (omega arith)) (omega arith)
            ∙ ap (λ (z : ℕ). of_bits binary32 z) (omega arith)
        go s q k p j eq ek ep ej (inr over) =
            near_down binary32 s w d p j D (omega arith) (inl (omega arith)) over (inl (short p j ep ej))
            ∙ units-pattern s p j (omega arith) (inl (omega arith)) (omega arith)
            ∙ ap (λ (z : ℕ). of_bits binary32 z) (omega arith)

-- the quotient's bits, where they tell
pub quotient-nearest : (w d b : ℕ) → 0 < d → b ≡ to_bits binary64 (round binary64 false w d) → Tells b → Nearest w d (narrowed_of b)
quotient-nearest w d b D e t =
    let is : round binary64 false w d ≡ of_bits binary64 b = sym (ap (λ (n : ℕ). of_bits binary64 n) e ∙ of_bits-to_bits binary64 (round binary64 false w d) (round-fits binary64 false w d)) in
    narrowed w d b D is t.low t.high t.no_tie
