-- What document 01 says of a decimal value, as theorems about its definition. Assumes nothing.
use Prim.Native.Nat.{ℕ, ◌-◌, ◌*◌, ◌^◌, ◌≤◌}
use mathlib.Core.Path.{◌≡◌, refl}
use mathlib.Core.List.{List}
use lib.IntN.{pos}
use lib.Ieee.{Float, nan, inf, fin, binary32, binary64, up, down, round, to_bits, size, units, odd}
use lib.Count.{count_trailing_zeros}
use mathlib.Core.Bool.{false}
use Rattle.decimal_rounding.proofs.Limits.{infinite-from, zero-to, Signed, sign_kept}
use Rattle.decimal_digits.proofs.Values.{ten-pos}
use Rattle.scan.specs.declared.numbers.Places.{Places}
use Rattle.decimal.specs.Decimal.{numerator, denominator, negative, value_of}

module _ (text : List ℕ) (p : Places) where
  -- "2^128 - 2^103 and above is infinite"
  pub infinite-above : (2 ^ 128 - 2 ^ 103) * denominator text p ≤ numerator text p → value_of text p ≡ inf (negative text p)
  unfolding value_of
  infinite-above h = infinite-from (negative text p) (numerator text p) (denominator text p) (ten-pos _) h

  -- "2^-150 and below is zero", and it has the sign
  pub zero-below : numerator text p * 2 ^ 150 ≤ denominator text p → value_of text p ≡ fin (negative text p) 0 (pos 0)
  unfolding value_of
  zero-below h = zero-to (negative text p) (numerator text p) (denominator text p) (ten-pos _) h

  -- "the sign is kept": of a zero, of a number and of an infinity; and no value is a NaN
  pub signed : Signed (negative text p) (value_of text p)
  unfolding value_of
  signed = sign_kept binary32 (negative text p) (numerator text p) (denominator text p)

-- ---- "Tempting and wrong: rounding a decimal through f64"

-- a float of the larger format, rounded to the smaller one
pub again : Float → Float
again nan = nan
again (inf s) = inf s
again (fin s m e) = round binary32 s (m * up e) (down e)

-- 16777217.000000001 is rounded to 16777217 in binary64, and that to the even 16777216; but it is nearer to 16777218
pub through-binary64 :
    (to_bits binary32 (again (round binary64 false 16777217000000001 (10 ^ 9))) ≡ 1266679808)
    × (to_bits binary32 (round binary32 false 16777217000000001 (10 ^ 9)) ≡ 1266679809)
unfolding again round size units odd to_bits count_trailing_zeros
through-binary64 = (refl, refl)
