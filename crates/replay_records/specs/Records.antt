-- The patterns of a record: eight upper-case hexadecimal digits. Definitions only.
use Rattle.std.specs.Prelude.{ℕ, ◌+◌, ◌-◌, ◌*◌, ◌%◌, cond, List, length, from_bits, nat_le, nat_lt, slice_index, Float}
use Rattle.std.specs.Float.{binary32, nan}
use Rattle.floats.specs.Patterns.{sign_place, infinity_bits}

-- what a byte stands for: 0 to 9, A to F, and 0 for any other
unfoldable pub digit_of : ℕ → ℕ
digit_of byte = cond (nat_lt byte 48) 0 (cond (nat_le byte 57) (byte - 48) (cond (nat_lt byte 65) 0 (cond (nat_le byte 70) (byte - 55) 0)))

unfoldable pub half_of : ℕ → ℕ → ℕ → ℕ → ℕ
unfolding digit_of
half_of a b c d = digit_of a * 4096 + digit_of b * 256 + digit_of c * 16 + digit_of d

-- the number of the eight digits from an offset on; 0 where the text ends before
unfoldable pub pattern_of : List ℕ → ℕ → ℕ
unfolding half_of
pattern_of text at =
    cond
    (nat_lt (length text) (at + 8))
    0
    (half_of (slice_index text at) (slice_index text (at + 1)) (slice_index text (at + 2)) (slice_index text (at + 3)) * 65536
    + half_of (slice_index text (at + 4)) (slice_index text (at + 5)) (slice_index text (at + 6)) (slice_index text (at + 7)))

-- the float of a pattern; every NaN's pattern has the one NaN
unfoldable pub float_of : ℕ → Float
float_of bits = cond (nat_lt infinity_bits (bits % sign_place)) nan (from_bits binary32 bits)
