-- Demand 3 of the numbers that a C caller of `kihavute_flight` receives, at their places in `answer` (path_place/specs/Demand.antt has the demand). Definitions only.
use Rattle.std.specs.Prelude.{ℕ, ◌<◌, ◌≡◌, List, T, length, get_or, Float}
use Rattle.std.specs.Float.Ieee.{lt}
use Rattle.floats.specs.Floats.{epsilon_f, bits_of}
use Rattle.math.specs.declared.points.Point.{Point}
use Rattle.table.specs.Spots.{path_total}
use Rattle.path_stored.specs.Buffers.{Buffers}
use Rattle.path_place.specs.declared.places.Place.{Place}
use Rattle.path_query.specs.Ordered.{sample_at, heading_at, Ordered}

-- the six numbers of a pair: its sample, its heading, itself
pub record Holds (b : Buffers) (pair : Place) (progress : Float) (after : List ℕ) : Type 0 where
  pub x : get_or after 0 0 ≡ bits_of (sample_at b pair).x
  pub y : get_or after 1 0 ≡ bits_of (sample_at b pair).y
  pub heading_x : get_or after 2 0 ≡ bits_of (heading_at b pair progress).x
  pub heading_y : get_or after 3 0 ≡ bits_of (heading_at b pair progress).y
  pub segment : get_or after 4 0 ≡ pair.segment
  pub raw : get_or after 5 0 ≡ bits_of pair.raw.value

-- the calls on these buffers meet demand 3, and the answer holds the pair of this one
pub record Received (b : Buffers) (progress : Float) (after : List ℕ) : Type 0 where
  pub calls : Ordered b
  pub holds : Holds b (calls.pair progress) progress after

-- What a call that returns 0 leaves in its answer, on a path with a segment that is longer than 2^-23. It asks nothing of the buffers: that they hold f32 values is what lending them says.
abbrev pub ReceivedBy : Buffers → Float → ℕ → List ℕ → Type 0
ReceivedBy b progress returned after = returned ≡ 0 → 0 < length b.kinds → T (lt epsilon_f (path_total b.lengths)) → Received b progress after
