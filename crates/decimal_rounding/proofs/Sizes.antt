-- Bounds on a float are bounds on its pattern: a positive f64 by its whole number of smallest values, each 2 ^ -1074. Assumes nothing.
use Prim.Native.Nat.{ℕ, ◌+◌, ◌-◌, ◌*◌, ◌/◌, ◌^◌, ◌≤◌, ◌<◌}
use mathlib.Core.Path.{◌≡◌, sym}
use mathlib.Core.Bool.{true, false}
use native.Mathlib.Nat.{le_trans, le_of_eq, lt_of_lt_of_le, lt_of_not-le, not-le_of_lt, le-div_iff_mul-le, zero-add}
use native.Mathlib.Omega.{arith}
use lib.Dec.{T}
use lib.Pow.{pow-add, pow_pos, pow_mono}
use lib.Ieee.{Float, nan, inf, fin, binary64, to_bits, size}
use lib.Ieee.Digits.{size-lt, size-le, size_reaches}
use lib.Ieee.Fits.{kept-lt}
use lib.Ieee.Positive.{num, den, positive}
use Rattle.floats.specs.Patterns.{wide_hidden}

-- that number, without the sign
abbrev pub wide_units : Float → ℕ
wide_units x = num x * 2 ^ 1074 / den x

-- the pattern of n of them: the place of the highest digit, and the 53 digits from there on
abbrev wide_bits : ℕ → ℕ
wide_bits n = (size n - 53) * wide_hidden + n / 2 ^ (size n - 53)

bits_of : (x : Float) → T (positive x) → to_bits binary64 x ≡ wide_bits (wide_units x)
unfolding to_bits
bits_of nan p = absurd p
bits_of (inf s) p = absurd p
bits_of (fin true m e) p = absurd p
bits_of (fin false m e) p = simp zero-add

module _ (n a b : ℕ) (normal : 53 ≤ a) (low : 2 ^ a ≤ n) (high : n < 2 ^ b) where
  long : a < size n
  long = lt_of_not-le (λ (g : size n ≤ a). not-le_of_lt (lt_of_lt_of_le (size-lt n) (pow_mono g)) low)

  first-digit : wide_hidden ≤ n / 2 ^ (size n - 53)
  first-digit =
      let k = size n - 53 in
      let e : 52 + k < size n = omega (arith, long) in
      (le-div_iff_mul-le (pow_pos k)).1 (le_trans (le_of_eq (sym (pow-add 2 52 k))) (size_reaches n (52 + k) e))

  bits-low : (a - 51) * wide_hidden ≤ wide_bits n
  bits-low = omega (arith, long, first-digit)

  bits-high : wide_bits n < (b - 51) * wide_hidden
  bits-high = omega (arith, long, size-le n b high, kept-lt 53 n)

module _ (x : Float) (above : T (positive x)) (a b : ℕ) (normal : 53 ≤ a) (low : 2 ^ a ≤ wide_units x) (high : wide_units x < 2 ^ b) where
  pub bits-between : ((a - 51) * wide_hidden ≤ to_bits binary64 x) × (to_bits binary64 x < (b - 51) * wide_hidden)
  bits-between = rw (bits_of x above) (bits-low (wide_units x) a b normal low high, bits-high (wide_units x) a b normal low high)
