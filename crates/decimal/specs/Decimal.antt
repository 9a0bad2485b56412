-- Decimal numbers (document 01, "Decimal value"): the exact fraction that a scanned number denotes, and the f32 nearest to it. Definitions only.
-- "the nearest binary32 to the exact fraction, ties to even, for any count of digits. 2^128 - 2^103 and above is infinite, 2^-150 and below is
-- zero; the sign is kept."
use Rattle.std.specs.Prelude.{ℕ, ◌+◌, ◌-◌, ◌*◌, ◌^◌, List, Bool, cond, ◌&&◌, eqb, ltb, get_or, Float, Result, Ok, Err}
use Rattle.std.specs.Float.{binary32}
use Rattle.std.specs.Float.Ieee.{round}
use Rattle.answers.specs.declared.refusals.Refusal.{Refusal}
use Rattle.answers.specs.declared.refusals.Refusal.TheVariants.{ExpectedNumber, InvalidNumber}
use Rattle.scan.specs.Numbers.{scan_number_of}
use Rattle.scan.specs.declared.numbers.Places.{Places}
use Rattle.scan.specs.declared.numbers.NumberError.{NumberError}
use Rattle.scan.specs.declared.numbers.NumberError.TheVariants.{NoDigit, NoExponentDigit}
use Rattle.decimal_digits.specs.Digits.{digits_in, val}
use Rattle.decimal.specs.declared.numbers.Read.{Read}

-- the byte -
abbrev pub minus : ℕ
minus = 45

-- ---- the exact fraction

-- all digits before the exponent, the point left out
abbrev pub digits_of : List ℕ → Places → List ℕ
digits_of text p = digits_in text p.whole p.mark

-- how many of them stand after the point
abbrev pub places_of : Places → ℕ
places_of p = p.mark - p.fraction

-- the number after the e, of any count of digits; 0 where there is no e
abbrev pub power_of : List ℕ → Places → ℕ
power_of text p = val (digits_in text p.exponent p.end)

-- there is an e, and a minus after it
unfoldable pub falls : List ℕ → Places → Bool
falls text p = ltb p.mark p.exponent && eqb (get_or text (p.mark + 1) 0) minus

-- the exponent by its sign: by how many places the point moves to the right, and by how many to the left
unfoldable pub rise_of : List ℕ → Places → ℕ
rise_of text p = cond (falls text p) 0 (power_of text p)

unfoldable pub fall_of : List ℕ → Places → ℕ
fall_of text p = cond (falls text p) (power_of text p) 0

abbrev pub numerator : List ℕ → Places → ℕ
numerator text p = val (digits_of text p) * 10 ^ rise_of text p

abbrev pub denominator : List ℕ → Places → ℕ
denominator text p = 10 ^ (places_of p + fall_of text p)

-- ---- the value

abbrev pub negative : List ℕ → Places → Bool
negative text p = eqb (get_or text p.start 0) minus

-- "the nearest binary32 to the exact fraction, ties to even [..] the sign is kept"
unfoldable pub value_of : List ℕ → Places → Float
value_of text p = round binary32 (negative text p) (numerator text p) (denominator text p)

-- ---- the number that starts at a place

-- its value and the place past it; "at least one digit in all (else 3 at its start)", "exponent without digit (offset of the e)"
abbrev pub read_at : Float → ℕ → Read
read_at value end = record { value = value; end = end }

abbrev pub read_of : List ℕ → Result Places NumberError → Result Read Refusal
read_of text (Ok p) = Ok (read_at (value_of text p) p.end)
read_of text (Err (NoDigit at)) = Err (ExpectedNumber at)
read_of text (Err (NoExponentDigit at)) = Err (InvalidNumber at)

unfoldable pub number_of : List ℕ → ℕ → Result Read Refusal
number_of text at = read_of text (scan_number_of text at)
