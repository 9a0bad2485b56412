-- Worked examples that hold the definition to document 01: antt computes each side. Assumes nothing.
use Prim.Native.Nat.{ℕ}
use mathlib.Core.Path.{◌≡◌, refl}
use mathlib.Core.List.{List, [], ◌∷◌}
use lib.Count.{count_trailing_zeros}
use lib.Ieee.{binary32, round, size, units, odd, of_bits, of_fields}
use Rattle.std.specs.Prelude.{Result, Ok, Err}
use Rattle.answers.specs.declared.refusals.Refusal.{Refusal}
use Rattle.answers.specs.declared.refusals.Refusal.TheVariants.{ExpectedNumber, InvalidNumber}
use Rattle.floats.specs.Patterns.{sign_place, infinity_bits}
use Rattle.scan.specs.Scan.{leading, scan}
use Rattle.scan.specs.Bytes.{among}
use Rattle.scan.specs.Runs.{stands, past_one, past_all, past_mark_of}
use Rattle.scan.specs.Numbers.{whole_of, point_of, fraction_of, mark_of, exponent_of, end_of, places_of, no_digit, no_exponent_digit, scan_number_of}
use Rattle.scan.specs.declared.numbers.Places.{Places}
use Rattle.scan.specs.declared.numbers.NumberError.{NumberError}
use Rattle.decimal_digits.specs.Digits.{digits_among, val}
use Rattle.decimal.specs.Decimal.{falls, rise_of, fall_of, value_of, read_at, number_of}
use Rattle.decimal.specs.declared.numbers.Read.{Read}

-- the places that are scanned at the start of a text
pub scanned : List ℕ → Result Places NumberError
unfolding scan_number_of places_of no_digit no_exponent_digit end_of exponent_of mark_of fraction_of point_of whole_of past_mark_of past_one past_all scan leading stands among
scanned text = scan_number_of text 0

-- what is read there
pub read : List ℕ → Result Read Refusal
unfolding scanned digits_among val falls rise_of fall_of value_of number_of round size units odd count_trailing_zeros
read text = number_of text 0

-- `16777217`: a tie goes to the even significand
pub odd-whole-reads : read (49 ∷ 54 ∷ 55 ∷ 55 ∷ 55 ∷ 50 ∷ 49 ∷ 55 ∷ []) ≡ Ok (read_at (of_bits binary32 1266679808) 8)
unfolding read of_bits of_fields
odd-whole-reads = refl

-- `16777217.0000001`: a digit far behind turns it
pub past-the-tie-reads : read (49 ∷ 54 ∷ 55 ∷ 55 ∷ 55 ∷ 50 ∷ 49 ∷ 55 ∷ 46 ∷ 48 ∷ 48 ∷ 48 ∷ 48 ∷ 48 ∷ 48 ∷ 49 ∷ []) ≡ Ok (read_at (of_bits binary32 1266679809) 16)
unfolding read of_bits of_fields
past-the-tie-reads = refl

-- `16777217.000000001`: so does one that binary64 loses
pub far-past-the-tie-reads : read (49 ∷ 54 ∷ 55 ∷ 55 ∷ 55 ∷ 50 ∷ 49 ∷ 55 ∷ 46 ∷ 48 ∷ 48 ∷ 48 ∷ 48 ∷ 48 ∷ 48 ∷ 48 ∷ 48 ∷ 49 ∷ []) ≡ Ok (read_at (of_bits binary32 1266679809) 18)
unfolding read of_bits of_fields
far-past-the-tie-reads = refl

-- `3.4028235e38`: the largest f32
pub largest-reads : read (51 ∷ 46 ∷ 52 ∷ 48 ∷ 50 ∷ 56 ∷ 50 ∷ 51 ∷ 53 ∷ 101 ∷ 51 ∷ 56 ∷ []) ≡ Ok (read_at (of_bits binary32 2139095039) 12)
unfolding read of_bits of_fields
largest-reads = refl

-- `3.4028236e38`: the last middle is passed, so it is the infinity
pub infinite-reads : read (51 ∷ 46 ∷ 52 ∷ 48 ∷ 50 ∷ 56 ∷ 50 ∷ 51 ∷ 54 ∷ 101 ∷ 51 ∷ 56 ∷ []) ≡ Ok (read_at (of_bits binary32 infinity_bits) 12)
unfolding read of_bits of_fields
infinite-reads = refl

-- `-0`: the sign of zero
pub minus-zero-reads : read (45 ∷ 48 ∷ []) ≡ Ok (read_at (of_bits binary32 sign_place) 2)
unfolding read of_bits of_fields
minus-zero-reads = refl

-- `-1e-45`: the smallest f32 is nearer than zero
pub smallest-reads : read (45 ∷ 49 ∷ 101 ∷ 45 ∷ 52 ∷ 53 ∷ []) ≡ Ok (read_at (of_bits binary32 2147483649) 6)
unfolding read of_bits of_fields
smallest-reads = refl

-- `7e-46`: 2 ^ -150 is not reached
pub zero-reads : read (55 ∷ 101 ∷ 45 ∷ 52 ∷ 54 ∷ []) ≡ Ok (read_at (of_bits binary32 0) 5)
unfolding read of_bits of_fields
zero-reads = refl

-- `1e 2`: an exponent without a digit is refused at its e
pub bare-exponent-reads : read (49 ∷ 101 ∷ 32 ∷ 50 ∷ []) ≡ Err (InvalidNumber 1)
unfolding read
bare-exponent-reads = refl

-- `-.e5`: no digit stands before the e
pub no-digit-reads : read (45 ∷ 46 ∷ 101 ∷ 53 ∷ []) ≡ Err (ExpectedNumber 0)
unfolding read
no-digit-reads = refl
