-- The points of a line at even distances (source document 004, `resample`): of at least two points, into at least two. Points and outputs count from 0, lengths are in path
-- units, each operation rounds once. Definitions only.
use Rattle.std.specs.Prelude.{ℕ, ◌-◌, ◌*◌, ◌≤◌, ◌<◌, min, ◌≡◌, cond, List, T, eqb, pos, Float}
use Rattle.std.specs.Float.{binary32}
use Rattle.std.specs.Float.Ieee.{mul, div, of_int}
use Rattle.std.specs.Float.Ieee.Scale.{finite}
use Rattle.math.specs.declared.points.Point.{Point}
use Rattle.math.specs.Math.{lerp_point_of}
use Rattle.table.specs.Lookup.{at, first_not_below, share_of}
use Rattle.polyline.specs.Points.{count_of, point_at}
use Rattle.polyline.specs.Lengths.{lengths_of, total_of}
use Rattle.resample.specs.declared.walking.Stretch.{Stretch}

-- `total * i as f32 / (count - 1) as f32`: the product first
unfoldable pub target_at : Float → ℕ → ℕ → Float
target_at total last i = div binary32 (mul binary32 total (of_int binary32 (pos i))) (of_int binary32 (pos last))

-- "the first running length that is not below the target", `.min(points.len() - 1)`
unfoldable pub pick_of : List Float → Float → ℕ
pick_of points target = min (first_not_below target (lengths_of points)) (count_of points - 1)

-- the leg that ends at a point: `cumulative[lower]`, `cumulative[upper]`, where lower is one less, but not below 0
unfoldable pub stretch_at : List Float → ℕ → Stretch
stretch_at points upper = record { upper = upper; low = at (lengths_of points) (upper - 1); high = at (lengths_of points) upper }

-- `if lower == upper` the point itself, else the point at the share of the leg that lies before the target
unfoldable pub between_of : List Float → Stretch → Float → Point
between_of points stretch target =
    cond (eqb stretch.upper 0) (point_at points 0)
    (lerp_point_of (point_at points (stretch.upper - 1)) (point_at points stretch.upper) (share_of stretch.low stretch.high target))

unfoldable pub along_of : List Float → Float → Point
along_of points target = between_of points (stretch_at points (pick_of points target)) target

-- the first and the last are copied
unfoldable pub spread_at : List Float → Float → ℕ → ℕ → Point
spread_at points total count i =
    cond (eqb i 0) (point_at points 0) (cond (eqb i (count - 1)) (point_at points (count_of points - 1)) (along_of points (target_at total (count - 1) i)))

-- ---- what the parts ask

-- counts that are f32 values
pub record Evenly (i last : ℕ) : Type 0 where
  pub inside : i ≤ last
  pub few : last ≤ 4095

-- a stretch on the way to a target: no length before it is at or above the target
pub record Reached (points : List Float) (stretch : Stretch) (target : Float) : Type 0 where
  pub some : 0 < count_of points
  pub here : stretch ≡ stretch_at points stretch.upper
  pub upto : stretch.upper ≤ pick_of points target

-- at least two of each, the total, and room
pub record Spread (points : List Float) (count : ℕ) (total : Float) (room : ℕ) : Type 0 where
  pub two : 2 ≤ count_of points
  pub more : 2 ≤ count
  pub few : count ≤ 4096
  pub sum : total ≡ total_of points
  pub fine : T (finite total)
  pub fits : 2 * count ≤ room
