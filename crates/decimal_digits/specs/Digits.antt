-- Decimal digits in a text, and the number that they stand for. A text is a list of bytes, a digit is its value from 0 to 9. Definitions only.
use Rattle.std.specs.Prelude.{ℕ, ◌+◌, ◌-◌, ◌*◌, ◌^◌, cond, List, [], ◌∷◌, length, take, drop}
use Rattle.scan.specs.Bytes.{among, digits}

-- the digits among bytes; any other byte, as the point, is passed over
unfoldable pub digits_among : List ℕ → List ℕ
digits_among [] = []
digits_among (byte ∷ rest) = cond (among byte digits) ((byte - 48) ∷ digits_among rest) (digits_among rest)

-- the digits of a text from one place up to another
abbrev pub digits_in : List ℕ → ℕ → ℕ → List ℕ
digits_in text from to = digits_among (take (to - from) (drop from text))

-- the number that digits stand for, the first of them counting most
unfoldable pub val : List ℕ → ℕ
val [] = 0
val (digit ∷ rest) = digit * 10 ^ length rest + val rest
