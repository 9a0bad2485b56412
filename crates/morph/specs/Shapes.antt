-- The shape between two shapes (source document 004, `MorphPath`). Points count from 0. Definitions only.
use Rattle.std.specs.Prelude.{ℕ, min, Bool, false, ◌||◌, List, [], ◌∷◌, Float}
use Rattle.std.specs.Float.Ieee.{ne}
use Rattle.floats.specs.Floats.{zero_f, one_f, clamp_of}
use Rattle.math.specs.declared.points.Point.{Point}
use Rattle.math.specs.Math.{lerp_point_of}
use Rattle.polyline.specs.Points.{count_of, point_at, rows_of}

-- "its progress is clamped, and a NaN stays NaN"
unfoldable pub progress_of : Float → Float
progress_of t = clamp_of t zero_f one_f

-- `zip`: the points that both shapes have
unfoldable pub shared_of : List Float → List Float → ℕ
shared_of from to = min (count_of from) (count_of to)

-- "`lerp` is a + (b - a)·t", each coordinate by itself
unfoldable pub between_at : List Float → List Float → Float → ℕ → Point
between_at from to along i = lerp_point_of (point_at from i) (point_at to i) along

-- the numbers of the points that both shapes have
abbrev pub numbers_between : List Float → List Float → Float → List Float
numbers_between from to along = rows_of (between_at from to along) (shared_of from to)

-- whether one of the numbers is a NaN, which alone differs from itself
unfoldable pub any_nan : List Float → Bool
any_nan [] = false
any_nan (x ∷ xs) = ne x x || any_nan xs
