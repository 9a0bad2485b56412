-- Numbers of decimal digits in a record. Definitions only.
use Rattle.std.specs.Prelude.{ℕ, ◌+◌, ◌-◌, ◌*◌, cond, List, nat_le, nat_lt, slice_index}

-- what a byte stands for: 0 to 9, and 9 for any other
unfoldable pub decimal_of : ℕ → ℕ
decimal_of byte = cond (nat_lt byte 48) 9 (cond (nat_le byte 57) (byte - 48) 9)

-- the number of one, two and three digits from an offset on, the first the highest
abbrev pub one_of : List ℕ → ℕ → ℕ
one_of text at = decimal_of (slice_index text at)

abbrev pub two_of : List ℕ → ℕ → ℕ
two_of text at = one_of text at * 10 + one_of text (at + 1)

abbrev pub three_of : List ℕ → ℕ → ℕ
three_of text at = two_of text at * 10 + one_of text (at + 2)
