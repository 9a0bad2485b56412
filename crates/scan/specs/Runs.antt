-- Places in one text: what stands at one, and the place past what stands there. A text is a list of bytes. Definitions only.
use Rattle.std.specs.Prelude.{ℕ, ◌+◌, Bool, ◌&&◌, cond, List, ltb, length, get_or}
use Rattle.scan.specs.Scan.{scan}
use Rattle.scan.specs.Bytes.{among, digits, signs, points, exponent_marks, commas, white_space, separators}

-- whether a byte of a class stands at a place; past the text none does
unfoldable pub stands : List ℕ → ℕ → List ℕ → Bool
stands text at class = ltb at (length text) && among (get_or text at 0) class

-- the place past one byte of a class, or the place itself where none stands there: an optional byte
unfoldable pub past_one : List ℕ → List ℕ → ℕ → ℕ
past_one class text at = cond (stands text at class) (at + 1) at

-- the place past all bytes of a class, "in any number"
unfoldable pub past_all : List ℕ → List ℕ → ℕ → ℕ
past_all class text at = scan (λ byte. among byte class) text at

-- the byte at a place; past the text it is 0, which is of no class
abbrev pub byte_at_of : List ℕ → ℕ → ℕ
byte_at_of text at = get_or text at 0

abbrev pub past_digits_of : List ℕ → ℕ → ℕ
past_digits_of = past_all digits

abbrev pub past_white_of : List ℕ → ℕ → ℕ
past_white_of = past_all white_space

abbrev pub past_separators_of : List ℕ → ℕ → ℕ
past_separators_of = past_all separators

abbrev pub past_sign_of : List ℕ → ℕ → ℕ
past_sign_of = past_one signs

abbrev pub past_point_of : List ℕ → ℕ → ℕ
past_point_of = past_one points

abbrev pub past_comma_of : List ℕ → ℕ → ℕ
past_comma_of = past_one commas

-- the place past the e of an exponent and its sign, or the place itself where no e stands there
unfoldable pub past_mark_of : List ℕ → ℕ → ℕ
past_mark_of text at = cond (stands text at exponent_marks) (past_sign_of text (at + 1)) at
