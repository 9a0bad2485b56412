-- Rows of a record: patterns that stand a step apart, and bytes. Offsets count from 0. Definitions only.
use Rattle.std.specs.Prelude.{◌≡◌, ℕ, zero, suc, ◌+◌, ◌≤◌, Bool, true, cond, ◌&&◌, List, [], ◌∷◌, length, take, ◌==◌, nat_lt, slice_index, Float}
use Rattle.floats.specs.Floats.{bits_of}
use Rattle.replay_records.specs.Records.{pattern_of, float_of}

-- n counts numbers from the first on. The second part follows from the first; a part `&numbers[..n]` asks for both.
abbrev pub Begins : ℕ → List Float → Type 0
Begins n numbers = (n ≤ length numbers) × (n ≡ length (take n numbers))

-- a step further, or the same offset past the text's end
abbrev pub onward_of : List ℕ → ℕ → ℕ → ℕ
onward_of text offset step = cond (nat_lt offset (length text)) (offset + step) offset

-- the floats of so many patterns
unfoldable pub numbers_of : List ℕ → ℕ → ℕ → ℕ → List Float
numbers_of text at step zero = []
numbers_of text at step (suc count) = float_of (pattern_of text at) ∷ numbers_of text (at + step) step count

-- whether numbers have the patterns
unfoldable pub same_numbers : List Float → List ℕ → ℕ → ℕ → Bool
same_numbers [] text at step = true
same_numbers (x ∷ numbers) text at step = bits_of x == pattern_of text at && same_numbers numbers text (at + step) step

-- whether the text has these bytes, each raised by so much
unfoldable pub same_bytes : List ℕ → ℕ → List ℕ → ℕ → Bool
same_bytes [] by text at = true
same_bytes (b ∷ bytes) by text at = b + by == slice_index text at && same_bytes bytes by text (at + 1)
