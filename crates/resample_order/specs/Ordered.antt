-- Which point of a line each output of `resample` chose, and what it is that the outputs stand on the line in order. Points and outputs count from 0; a leg is named by the point that
-- it ends at, so that the first leg is 1. Definitions only.
use Rattle.std.specs.Prelude.{ℕ, ◌-◌, ◌≤◌, ◌<◌, ◌≡◌, cond, List, T, eqb, Float}
use Rattle.std.specs.Float.Ieee.{lt, le}
use Rattle.floats.specs.Floats.{zero_f, one_f, epsilon_f}
use Rattle.math.specs.declared.points.Point.{Point}
use Rattle.math.specs.Math.{lerp_point_of}
use Rattle.table.specs.Lookup.{at, share_of}
use Rattle.table_order.specs.Stated.{NoStepBack}
use Rattle.table_order.specs.Swept.{Enclose}
use Rattle.polyline.specs.Points.{count_of, point_at}
use Rattle.polyline.specs.Lengths.{lengths_of, total_of}
use Rattle.resample.specs.Spacing.{target_at, pick_of}

-- the share of the leg k that lies before a target
unfoldable pub share_in : List Float → ℕ → Float → Float
share_in points k target = share_of (at (lengths_of points) (k - 1)) (at (lengths_of points) k) target

-- the point that output i chose: the first and the last output are the line's own ends, copied and not searched
unfoldable pub chosen_of : List Float → Float → ℕ → ℕ → ℕ
chosen_of points total count i = cond (eqb i 0) 0 (cond (eqb i (count - 1)) (count_of points - 1) (pick_of points (target_at total (count - 1) i)))

-- the share of the leg that ends there
unfoldable pub share_at : List Float → Float → ℕ → ℕ → Float
unfolding share_in
share_at points total count i =
    let target = target_at total (count - 1) i in
    cond (eqb i 0) zero_f (cond (eqb i (count - 1)) one_f (share_in points (pick_of points target) target))

-- a point on the leg that ends at the point k
pub record OnLeg (points : List Float) (k : ℕ) (share : Float) (output : Point) : Type 0 where
  pub first : 1 ≤ k
  pub last : k ≤ count_of points - 1
  pub from : T (le zero_f share)
  pub upto : T (le share one_f)
  pub lies : output ≡ lerp_point_of (point_at points (k - 1)) (point_at points k) share

-- Outputs that stand on a line in order, over any way to choose: `chosen` and `share` give each output's leg and the share of it.
pub record InOrder (points : List Float) (total : Float) (count : ℕ) (output : ℕ → Point) (chosen : ℕ → ℕ) (share : ℕ → Float) : Type 0 where
  -- the first and the last output are the line's own ends
  pub starts : (output 0 ≡ point_at points 0) × (chosen 0 ≡ 0)
  pub ends : (output (count - 1) ≡ point_at points (count_of points - 1)) × (chosen (count - 1) ≡ count_of points - 1)
  -- "the chosen polyline points never go back as the output index rises" (change request L11),
  pub rises : (i j : ℕ) → i ≤ j → j < count → chosen i ≤ chosen j
  -- nor does the pair of leg and share
  pub order : (i j : ℕ) → i ≤ j → j < count → NoStepBack (chosen i) (share i) (chosen j) (share j)
  -- each output between lies on the leg that ends at the point chosen
  pub between : (i : ℕ) → 1 ≤ i → i < count - 1 → OnLeg points (chosen i) (share i) (output i)
  -- the running lengths enclose the target, as in demand 3: "the one before (or 0) is below it, its own is not"
  pub enclosed : (i : ℕ) → 1 ≤ i → i < count - 1 → T (lt (target_at total (count - 1) i) total)
      → Enclose (at (lengths_of points) (chosen i - 1)) (at (lengths_of points) (chosen i)) (target_at total (count - 1) i)

-- what a call that returns 0 leaves in an output, of a line of two or more points that is longer than 2^-23, where two or more are asked for; elsewhere copies of the first point are given
abbrev pub InOrderBy : List Float → ℕ → ℕ → List Float → Type 0
InOrderBy points count returned output =
    returned ≡ 0 → 2 ≤ count_of points → 2 ≤ count → T (lt epsilon_f (total_of points))
    → InOrder points (total_of points) count (point_at output) (chosen_of points (total_of points) count) (share_at points (total_of points) count)
