-- What the output of `resample` gets (document 01, "Points and shapes"). Definitions only.
use Rattle.std.specs.Prelude.{ℕ, ◌*◌, ◌≤◌, ◌≡◌, ◌||◌, cond, List, [], eqb, Float, Result, Ok, Err}
use Rattle.std.specs.Float.Ieee.{le}
use Rattle.floats.specs.Floats.{epsilon_f}
use Rattle.answers.specs.declared.refusals.Refusal.{Refusal}
use Rattle.polyline.specs.Points.{count_of, point_at, rows_of}
use Rattle.polyline.specs.Lengths.{measured_of}
use Rattle.resample.specs.Spacing.{spread_at}
use Rattle.resample.specs.declared.spreading.Way.{Way}
use Rattle.resample.specs.declared.spreading.Way.TheVariants.{Nothing, Copies, Spread}

-- "a total of at most 2^-23 gives copies too"; 11 carries the "first such .. polyline point", as `measured_of` says
unfoldable pub by_length : Result Float Refusal → Result Way Refusal
by_length (Ok total) = cond (le total epsilon_f) (Ok Copies) (Ok (Spread total))
by_length (Err reason) = Err reason

-- "no points or count 0 gives nothing, one point or count 1 copies of the first (no lengths summed, so no 11)"
unfoldable pub plan_of : List Float → ℕ → Result Way Refusal
plan_of points count =
    cond (eqb (count_of points) 0 || eqb count 0) (Ok Nothing) (cond (eqb (count_of points) 1 || eqb count 1) (Ok Copies) (by_length (measured_of points)))

-- the numbers of the output
abbrev pub rows_by : List Float → ℕ → Way → List Float
rows_by points count Nothing = []
rows_by points count Copies = rows_of (λ i. point_at points 0) count
rows_by points count (Spread total) = rows_of (spread_at points total count) count

-- how many they are
abbrev pub need_of : Way → ℕ → ℕ
need_of Nothing count = 0
need_of Copies count = 2 * count
need_of (Spread total) count = 2 * count

-- ---- what filling asks: a way that was planned, and room
pub record Planned (points : List Float) (count : ℕ) (way : Way) (room : ℕ) : Type 0 where
  pub few : count ≤ 4096
  pub planned : plan_of points count ≡ Ok way
  pub fits : need_of way count ≤ room
