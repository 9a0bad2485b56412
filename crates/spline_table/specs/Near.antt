-- A test of every number of a list: points near the origin, and marks within a span. Definitions only.
use Rattle.std.specs.Prelude.{Bool, true, ◌&&◌, List, [], ◌∷◌, Float}
use Rattle.std.specs.Float.Ieee.{le, lt}
use Rattle.path_bounds.specs.Calm.{is_near}

unfoldable pub every : (Float → Bool) → List Float → Bool
every test [] = true
every test (own ∷ numbers) = test own && every test numbers

-- at most 2^40 in size
abbrev pub all_near : List Float → Bool
all_near numbers = every is_near numbers

-- from `low` up to below `high`
abbrev pub is_between : Float → Float → Float → Bool
is_between low high own = le low own && lt own high
