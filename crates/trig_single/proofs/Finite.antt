-- The patterns of finite f64, of either sign. Assumes nothing.
use mathlib.Core.Path.{◌≡◌, subst}
use mathlib.Core.Bool.{Bool, not}
use Prim.Native.Nat.{ℕ, ◌%◌, ◌<◌}
use native.Mathlib.Nat.{le_of_lt}
use lib.Dec.{T}
use lib.Ieee.{binary64, to_bits, of_bits, nan_bits}
use lib.Ieee.Bits.{to_bits-of_bits, nan_bits_is}
use Rattle.floats.specs.Patterns.{wide_sign_place, wide_infinity_bits}
use Rattle.decimal_rounding.proofs.Wide.{no-nan-plain}

pub finite-bits : (b : ℕ) → b % wide_sign_place < wide_infinity_bits → T (not (nan_bits binary64 b))
finite-bits b h = no-nan-plain binary64 b (le_of_lt h)

pub bits_back : (b : ℕ) → b < 18446744073709551616 → b % wide_sign_place < wide_infinity_bits → to_bits binary64 (of_bits binary64 b) ≡ b
bits_back b lt h = to_bits-of_bits binary64 b lt (subst (λ (t : Bool). T (not t)) (nan_bits_is binary64 b) (finite-bits b h))
