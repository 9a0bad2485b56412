-- The running lengths of the line through points (source document 004, `resample`): 0 at the first point, then one more leg at each. Path units; each sum rounds once.
-- Definitions only.
use Rattle.std.specs.Prelude.{ℕ, zero, suc, ◌-◌, cond, List, [], ◌∷◌, ltb, length, Float, Result, Ok, Err}
use Rattle.std.specs.Float.Ieee.Scale.{finite}
use Rattle.answers.specs.declared.refusals.Refusal.{Refusal}
use Rattle.answers.specs.declared.refusals.Refusal.TheVariants.{NotFinite}
use Rattle.math.specs.Math.{distance_of}
use Rattle.table.specs.Sums.{running_sums, sum_of}
use Rattle.polyline.specs.Points.{count_of, point_at}

-- the distance from the point i to the next
unfoldable pub leg_of : List Float → ℕ → Float
leg_of points i = distance_of (point_at points i) (point_at points (suc i))

-- k legs, from the leg i on
unfoldable pub legs_from : List Float → ℕ → ℕ → List Float
legs_from points zero i = []
legs_from points (suc k) i = leg_of points i ∷ legs_from points k (suc i)

-- all legs: one fewer than there are points
unfoldable pub legs_of : List Float → List Float
legs_of points = legs_from points (count_of points - 1) 0

-- the running length at each point, and the last of them
unfoldable pub lengths_of : List Float → List Float
lengths_of points = running_sums (legs_of points)

unfoldable pub total_of : List Float → Float
total_of points = sum_of (legs_of points)

-- "a running length becomes infinite or NaN": the "first such .. polyline point", or how many there are where each is finite
unfoldable pub first_not_finite : List Float → ℕ
first_not_finite [] = 0
first_not_finite (own ∷ lengths) = cond (finite own) (suc (first_not_finite lengths)) 0

-- the total, or 11 with that point
unfoldable pub measured_of : List Float → Result Float Refusal
measured_of points =
    let place = first_not_finite (lengths_of points) in
    cond (ltb place (length (lengths_of points))) (Err (NotFinite place)) (Ok (total_of points))
