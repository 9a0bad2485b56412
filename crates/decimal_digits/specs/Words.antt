-- Eight bytes of a text as one number, and the digits that they begin with. Definitions only.
use Rattle.std.specs.Prelude.{◌≡◌, ℕ, zero, suc, ◌+◌, ◌-◌, ◌*◌, ◌%◌, ◌^◌, ◌<◌, cond, List, [], ◌∷◌, length, bit_and, bit_or, slice_index}
use Rattle.scan.specs.Bytes.{among, digits}
use Rattle.decimal_digits.specs.Digits.{val}
use Rattle.decimal_digits.specs.declared.words.Run.{Run}

-- numbers in lanes of so many binary digits, the first of them lowest
unfoldable pub laid : ℕ → List ℕ → ℕ
laid bits [] = 0
laid bits (lane ∷ rest) = laid bits rest * 2 ^ bits + lane

-- eight bytes from a place on
abbrev pub eight_of : List ℕ → ℕ → List ℕ
eight_of text at =
    slice_index text at
    ∷ slice_index text (at + 1)
    ∷ slice_index text (at + 2)
    ∷ slice_index text (at + 3)
    ∷ slice_index text (at + 4)
    ∷ slice_index text (at + 5)
    ∷ slice_index text (at + 6)
    ∷ slice_index text (at + 7)
    ∷ []

-- the digits that bytes begin with
unfoldable pub begun : List ℕ → List ℕ
begun [] = []
begun (byte ∷ rest) = cond (among byte digits) ((byte - 48) ∷ begun rest) []

-- in each of so many lanes of eight binary digits the same number
unfoldable pub each : ℕ → ℕ → ℕ
each number zero = 0
each number (suc lanes) = each number lanes * 256 + number

-- the highest binary digit of each lane above 9, right up to the first of them: 118 is 128 - 10
unfoldable pub others_of : ℕ → ℕ → ℕ
others_of lanes x = bit_and (bit_or ((x + each 118 lanes) % 2 ^ (8 * lanes)) x) (each 128 lanes)

-- all numbers of a list are below one
abbrev pub Below : ℕ → List ℕ → Type 0
Below most [] = Unit
Below most (x ∷ xs) = (x < most) × Below most xs

-- how many of eight bytes are digits before the first that is none, and their number
pub record Runs (text : List ℕ) (at : ℕ) (r : Run) : Type 0 where
  pub count : r.count ≡ length (begun (eight_of text at))
  pub value : r.value ≡ val (begun (eight_of text at))
