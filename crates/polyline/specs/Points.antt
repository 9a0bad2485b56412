-- Points in a list of numbers, x before y (document 01, "Coordinates pass as lent f32 slices"). Points count from 0. Definitions only.
use Rattle.std.specs.Prelude.{ℕ, zero, suc, ◌+◌, ◌*◌, ◌/◌, List, [], ◌∷◌, ◌++◌, length, Float}
use Rattle.math.specs.declared.points.Point.{Point}
use Rattle.math.specs.Math.{point_of}
use Rattle.table.specs.Lookup.{at}

-- how many there are: two numbers each
abbrev pub count_of : List Float → ℕ
count_of points = length points / 2

unfoldable pub point_at : List Float → ℕ → Point
point_at points i = point_of (at points (2 * i)) (at points (2 * i + 1))

-- a point's numbers
abbrev pub two_of : Point → List Float
two_of p = p.x ∷ p.y ∷ []

-- the numbers of the first k points of a list whose point number i is `point i`
unfoldable pub rows_of : (ℕ → Point) → ℕ → List Float
rows_of point zero = []
rows_of point (suc k) = rows_of point k ++ two_of (point k)
