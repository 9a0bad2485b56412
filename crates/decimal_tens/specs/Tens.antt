-- Powers of ten in binary. The power at a place is 10 ^ (place - 64), for the places 0 to 102. Definitions only.
use Rattle.std.specs.Prelude.{ℕ, ◌+◌, ◌*◌, ◌/◌, ◌^◌, cond, ltb}

-- the place past the last
abbrev pub places : ℕ
places = 103

-- the power at a place has 60 binary digits before the point once it is divided by 2 ^ (height place - 272): 3.3218 a place, a little below the
-- binary logarithm of 10 but near enough for so few
abbrev pub height : ℕ → ℕ
height place = (6803 * place + 832) / 2048

-- these 60 digits: what is after the point is cut
unfoldable pub leading : ℕ → ℕ
leading place = 10 ^ place * 2 ^ 272 / (2 ^ height place * 10 ^ 64)

-- the table of them: 0 past it
unfoldable pub tens_of : ℕ → ℕ
unfolding leading
tens_of place = cond (ltb place places) (leading place) 0
