-- The f64 nearest to a quotient of whole numbers, one below 2 ^ 53 and one up to 10 ^ 8, lies from 2 ^ -31 to 2 ^ 53, and so does its pattern. Assumes nothing.
use Prim.Native.Nat.{ℕ, zero, suc, ◌*◌, ◌%◌, ◌^◌, ◌≤◌, ◌<◌, zero-le}
use mathlib.Core.Path.{◌≡◌, sym, subst, ◌∙◌}
use mathlib.Core.Bool.{Bool, false, cond}
use native.Mathlib.Nat.{le_trans, le_of_lt, lt_of_le_of_lt, le-div_iff_mul-le, div-lt_iff_lt-mul, mul-le-mul_left, mul-le-mul_right, mul-lt-mul_of_pos_right, zero-mul}
use native.Mathlib.Omega.{arith}
use borrow.Author.Tests.{ne_eqb}
use lib.Dec.{T, eqb, lit≤, lit<}
use lib.Pow.{pow_pos}
use lib.Ieee.{Float, binary64, round, to_bits, le}
use lib.Ieee.Exact.{HasValue}
use lib.Ieee.Order.{round_mono}
use lib.Ieee.Positive.{num, den, positive, den_pos, own_value, positive_of_value, values_of_le, between}
use Rattle.floats.specs.Patterns.{narrow_step, narrow_half}
use Rattle.decimal_rounding.specs.Wide.{narrowed_of}
use Rattle.decimal_rounding.proofs.Limits.{zero-to}
use Rattle.decimal_rounding.proofs.Pattern.{zero_bits}
use Rattle.decimal_rounding.proofs.Sizes.{wide_units, bits-between}
use Rattle.decimal.specs.Bits.{Nearest, Tells}
use Rattle.decimal.proofs.Narrowed.{own, quotient-nearest}

-- ---- the quotient between two powers of two

abbrev least : Float
least = round binary64 false (2 ^ 1043) (2 ^ 1074)

abbrev most : Float
most = round binary64 false (2 ^ 1127) (2 ^ 1074)

least-value : HasValue least false (2 ^ 1043) (2 ^ 1074)
least-value = own 0x3E00000000000000 (lit< tt)

most-value : HasValue most false (2 ^ 1127) (2 ^ 1074)
most-value = own 0x4340000000000000 (lit< tt)

module _ (w d : ℕ) (some : 0 < w) (few : w < 2 ^ 53) (D : 0 < d) (small : d ≤ 10 ^ 8) where
  abbrev x : Float
  x = round binary64 false w d

  from-least : T (le least x)
  from-least =
      let computed : 2 ^ 1043 * 10 ^ 8 ≤ 1 * 2 ^ 1074 = lit≤ tt in
      round_mono binary64 (2 ^ 1043) (2 ^ 1074) w d (pow_pos 1074) D (le_trans (mul-le-mul_left (2 ^ 1043) small) (le_trans computed (mul-le-mul_right (2 ^ 1074) some)))

  to-most : T (le x most)
  to-most =
      let computed : 2 ^ 53 * 2 ^ 1074 ≤ 2 ^ 1127 * 1 = lit≤ tt in
      round_mono binary64 w d (2 ^ 1127) (2 ^ 1074) D (pow_pos 1074) (le_trans (mul-le-mul_right (2 ^ 1074) (le_of_lt few)) (le_trans computed (mul-le-mul_left (2 ^ 1127) D)))

  least-positive : T (positive least)
  least-positive = positive_of_value least (2 ^ 1043) (2 ^ 1074) least-value (pow_pos 1043)

  most-positive : T (positive most)
  most-positive = positive_of_value most (2 ^ 1127) (2 ^ 1074) most-value (pow_pos 1127)

  above : T (positive x)
  above = between least x most least-positive most-positive from-least to-most

  units-low : 2 ^ 1043 ≤ wide_units x
  units-low =
      (le-div_iff_mul-le (den_pos x)).1
      (values_of_le least x (2 ^ 1043) (2 ^ 1074) (num x) (den x) least-positive above least-value (own_value x above) from-least)

  units-high : wide_units x < 2 ^ 1128
  units-high =
      (div-lt_iff_lt-mul (den_pos x)).1
      (lt_of_le_of_lt (values_of_le x most (num x) (den x) (2 ^ 1127) (2 ^ 1074) above most-positive (own_value x above) most-value to-most)
      (mul-lt-mul_of_pos_right (let computed : 2 ^ 1127 < 2 ^ 1128 = lit< tt in computed) (den_pos x)))

  -- the pattern tells the nearest f32 but for a middle
  pub quotient-tells : (b : ℕ) → b ≡ to_bits binary64 x → (b % narrow_step ≡ narrow_half → ⊥) → Tells b
  quotient-tells b e n =
      let r = bits-between x above 1043 1128 (lit≤ tt) units-low units-high in
      record { low = omega (arith, e, r.0); high = omega (arith, e, r.1); no_tie = n }

-- ---- the bits of a quotient's f32

zero-nearest : (d : ℕ) → 0 < d → Nearest 0 d 0
zero-nearest d D = record { finite_or_infinite = lit≤ tt; is = λ s. zero-to s 0 d D (subst (λ (n : ℕ). n ≤ d) (sym (zero-mul (2 ^ 150))) zero-le) ∙ zero_bits s }

module _ (d b : ℕ) (D : 0 < d) (small : d ≤ 10 ^ 8) (no_tie : b % narrow_step ≡ narrow_half → ⊥) where
  pub quotient-bits : (w : ℕ) → w < 2 ^ 53 → b ≡ to_bits binary64 (round binary64 false w d) → Nearest w d (cond (eqb w 0) 0 (narrowed_of b))
  quotient-bits zero few e = zero-nearest d D
  quotient-bits (suc w) few e =
      subst (λ (t : Bool). Nearest (suc w) d (cond t 0 (narrowed_of b))) (sym (ne_eqb (suc w) 0 (λ (z : suc w ≡ 0). omega arith)))
      (quotient-nearest (suc w) d b D e (quotient-tells (suc w) d (omega arith) few D small b e no_tie))
