-- Demand 3 of the numbers that a C caller of `kihavute_spline_flight` receives, at their places in `answer` (table_order/specs/Swept.antt has the demand). Definitions only.
use Rattle.std.specs.Prelude.{ℕ, ◌≡◌, List, get_or, Float}
use Rattle.floats.specs.Floats.{bits_of}
use Rattle.math.specs.declared.points.Point.{Point}
use Rattle.spline.specs.Formula.{spline_sample_of, spline_direction_of}
use Rattle.spline_query.specs.Ordered.{InOrder}

-- the six numbers of a raw parameter: its sample, its direction, segment 0, itself
pub record SplineHolds (points : List Float) (at : Float) (after : List ℕ) : Type 0 where
  pub x : get_or after 0 0 ≡ bits_of (spline_sample_of points at).x
  pub y : get_or after 1 0 ≡ bits_of (spline_sample_of points at).y
  pub heading_x : get_or after 2 0 ≡ bits_of (spline_direction_of points at).x
  pub heading_y : get_or after 3 0 ≡ bits_of (spline_direction_of points at).y
  pub segment : get_or after 4 0 ≡ 0
  pub raw : get_or after 5 0 ≡ bits_of at

-- the calls on this spline meet demand 3, and the answer holds the raw parameter of this one
pub record SplineReceived (points table : List Float) (progress : Float) (after : List ℕ) : Type 0 where
  pub calls : InOrder points table
  pub holds : SplineHolds points (calls.raw progress) after

-- What a call that returns 0 leaves in its answer. It asks nothing of the buffers: that they hold f32 values is what lending them says.
abbrev pub SplineReceivedBy : List Float → List Float → Float → ℕ → List ℕ → Type 0
SplineReceivedBy points table progress returned after = returned ≡ 0 → SplineReceived points table progress after
