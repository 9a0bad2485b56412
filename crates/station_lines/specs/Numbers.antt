-- Numbers as the station tool prints them (document 01, "The station tool"): f32 "numbers as bits", counts to the base 10. A text is a list of bytes.
-- Definitions only.
use Rattle.std.specs.Prelude.{ℕ, zero, suc, ◌+◌, ◌/◌, ◌%◌, cond, List, [], ◌∷◌, ◌++◌, ltb, Float}
use Rattle.floats.specs.Floats.{bits_of}

-- 0 to 9, then A to F
unfoldable pub hex_digit : ℕ → ℕ
hex_digit value = cond (ltb value 10) (48 + value) (55 + value)

-- the last so many digits of a number to the base 16
unfoldable pub hex_digits : ℕ → ℕ → List ℕ
hex_digits zero value = []
hex_digits (suc count) value = hex_digits count (value / 16) ++ (hex_digit (value % 16) ∷ [])

-- "numbers as bits": eight digits, upper case as in document 01's example
abbrev pub hex_of : ℕ → List ℕ
hex_of bits = hex_digits 8 bits

-- a number of at most so many digits and one, to the base 10, without a leading zero
unfoldable pub decimal_from : ℕ → ℕ → List ℕ
decimal_from zero value = (48 + value % 10) ∷ []
decimal_from (suc more) value = cond (ltb value 10) ((48 + value) ∷ []) (decimal_from more (value / 10) ++ ((48 + value % 10) ∷ []))

-- a count or a place has at most 20 digits
unfoldable pub decimal_of : ℕ → List ℕ
unfolding decimal_from
decimal_of value = decimal_from 20 value

-- a field of a line: a space, and a number
unfoldable pub bits_field : Float → List ℕ
unfolding hex_digits
bits_field value = 32 ∷ hex_of (bits_of value)

unfoldable pub number_field : ℕ → List ℕ
unfolding decimal_of
number_field value = 32 ∷ decimal_of value
