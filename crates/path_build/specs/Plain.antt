-- What the count of a plain list goes by: how often a letter occurs, and whether every number is near. That such counts are what a list builds is a law.
-- Definitions only.
use Rattle.std.specs.Prelude.{ℕ, ◌+◌, Bool, true, ◌&&◌, cond, List, [], ◌∷◌, eqb, Float}
use Rattle.path_bounds.specs.Calm.{is_near}

abbrev pub one_if : Bool → ℕ
one_if so = cond so 1 0

unfoldable pub count_in : ℕ → List ℕ → ℕ
count_in letter [] = 0
count_in letter (own ∷ letters) = one_if (eqb own letter) + count_in letter letters

unfoldable pub all_near : List Float → Bool
all_near [] = true
all_near (number ∷ numbers) = is_near number && all_near numbers
