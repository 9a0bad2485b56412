-- Bounds on a float are bounds on its pattern. Assumes nothing.
use mathlib.Core.Path.{refl}
use mathlib.Core.Bool.{true, false}
use Prim.Native.Nat.{ℕ, ◌*◌, ◌^◌, ◌≤◌, ◌<◌}
use native.Mathlib.Nat.{lt_of_le_of_lt, le_of_mul-le-mul_right}
use lib.Dec.{T, lit≤, lit<}
use lib.Pow.{pow_pos}
use lib.Ieee.{Float, nan, inf, fin, binary64, of_bits, to_bits, fits, le}
use lib.Ieee.Exact.{HasValue}
use lib.Ieee.Positive.{positive, values_of_le}
use Rattle.floats.specs.Patterns.{wide_hidden, wide_infinity_bits}
use Rattle.root.specs.Root.{units_of}
use Rattle.decimal_rounding.proofs.Sizes.{bits-between}
use Rattle.decimal_rounding.proofs.Wide.{digits_of, power_of, pattern-value, pattern-positive}
use Rattle.lengths.proofs.Exactly.{units-exact}

-- ---- units between those of two patterns
own-units : (x : Float) → T (fits binary64 x) → T (positive x) → HasValue x false (units_of binary64 x) (2 ^ 1074)
own-units nan h p = absurd p
own-units (inf s) h p = absurd p
own-units (fin true m e) h p = absurd p
own-units (fin false m e) h p = (refl, units-exact binary64 (fin false m e) h p)

module _ (x : Float) (held : T (fits binary64 x)) (above : T (positive x)) (p : ℕ) (least : wide_hidden ≤ p) (most : p < wide_infinity_bits) where
  pub units-from : T (le (of_bits binary64 p) x) → digits_of p * 2 ^ power_of p ≤ units_of binary64 x
  units-from h =
      le_of_mul-le-mul_right
      (values_of_le (of_bits binary64 p) x (digits_of p * 2 ^ power_of p) (2 ^ 1074) (units_of binary64 x) (2 ^ 1074) (pattern-positive p least most) above (pattern-value p least most) (own-units x held above) h)
      (pow_pos 1074)

  pub units-to : T (le x (of_bits binary64 p)) → units_of binary64 x ≤ digits_of p * 2 ^ power_of p
  units-to h =
      le_of_mul-le-mul_right
      (values_of_le x (of_bits binary64 p) (units_of binary64 x) (2 ^ 1074) (digits_of p * 2 ^ power_of p) (2 ^ 1074) above (pattern-positive p least most) (own-units x held above) (pattern-value p least most) h)
      (pow_pos 1074)

-- ---- two pairs of bounds: 2 ^ -120 and 2 ^ 125, and 2 ^ -300 and what is below 2 ^ 256
module _ (x : Float) (held : T (fits binary64 x)) (above : T (positive x)) where
  pub clamped-bits : T (le (of_bits binary64 0x3870000000000000) x) → T (le x (of_bits binary64 0x47C0000000000000)) → (903 * 2 ^ 52 ≤ to_bits binary64 x) × (to_bits binary64 x < 1149 * 2 ^ 52)
  clamped-bits h k =
      let n = units_of binary64 x in
      let a : 2 ^ 954 ≤ n = units-from x held above 0x3870000000000000 (lit≤ tt) (lit< tt) h in
      let b : n < 2 ^ 1200 = lt_of_le_of_lt (units-to x held above 0x47C0000000000000 (lit≤ tt) (lit< tt) k) (lit< tt) in
      bits-between x above 954 1200 (lit≤ tt) a b

  pub middling-bits : T (le (of_bits binary64 0x2D30000000000000) x) → T (le x (of_bits binary64 0x4FEFFFFFE0000008)) → (723 * 2 ^ 52 ≤ to_bits binary64 x) × (to_bits binary64 x < 1279 * 2 ^ 52)
  middling-bits h k =
      let n = units_of binary64 x in
      let a : 2 ^ 774 ≤ n = units-from x held above 0x2D30000000000000 (lit≤ tt) (lit< tt) h in
      let b : n < 2 ^ 1330 = lt_of_le_of_lt (units-to x held above 0x4FEFFFFFE0000008 (lit≤ tt) (lit< tt) k) (lit< tt) in
      bits-between x above 774 1330 (lit≤ tt) a b
