-- What is flown at a progress along a stored path: `position` and `tangent` of `CompoundPath` (source document 002), "segment number .. and raw parameter" (change request L4). Position and
-- tangent are, by definition, the sample and the tangent of the pair (segment, raw parameter) beside them, of which `path_place/proofs/Demand3.antt` speaks. Definitions only.
use Rattle.std.specs.Prelude.{ℕ, ◌<◌, cond, List, eqb, length, Float, Some, None}
use Rattle.floats.specs.Floats.{zero_f}
use Rattle.math.specs.Math.{origin_f}
use Rattle.table.specs.Spots.{spot_of}
use Rattle.bezier.specs.Curves.{ahead_of}
use Rattle.path_stored.specs.Buffers.{Buffers}
use Rattle.path_stored.specs.Stored.{Fielded, Stored, segment_in}
use Rattle.path_place.specs.declared.cursors.Cursor.{Cursor}
use Rattle.path_place.specs.declared.places.Place.{Place}
use Rattle.path_place.specs.Places.{placed, place_of, raw_in, raw_within, table_start, Standing}
use Rattle.path_heading.specs.Headings.{sample_of, heading_of}
use Rattle.flight.specs.declared.Flight.{Flight}

-- a pair; its sample; and its tangent, whose second try looks at the raw parameter a thousandth after the local progress
abbrev pub flown_in : List ℕ → List Float → List Float → Place → Float → Flight
flown_in kinds fields tables pair along =
    record {
      position = sample_of (segment_in kinds fields pair.segment) pair.raw.value;
      tangent = heading_of (segment_in kinds fields pair.segment) pair.raw.value (raw_in tables (table_start kinds pair.segment) (ahead_of along));
      segment = Some pair.segment;
      raw = pair.raw;
    }

abbrev pub flown_at : Buffers → Place → Float → Flight
flown_at b pair along = flown_in b.kinds b.fields b.tables pair along

-- at a local progress on the segment i
unfoldable pub flown_within : List ℕ → List Float → List Float → ℕ → Float → Flight
flown_within kinds fields tables i along = flown_in kinds fields tables (placed i (raw_within kinds tables i along)) along

-- at a progress along a path with a segment
unfoldable pub flown_of : Buffers → Float → Flight
flown_of b progress = flown_at b (place_of b progress) (spot_of b.lengths progress).progress.value

-- "No segments: position and tangent (0, 0)."; "a path without segments gives none and 0"
abbrev pub nowhere_f : Flight
nowhere_f = record { position = origin_f; tangent = origin_f; segment = None; raw = record { value = zero_f } }

unfoldable pub flight_of : Buffers → Float → Flight
unfolding flown_of
flight_of b progress = cond (eqb (length b.kinds) 0) nowhere_f (flown_of b progress)

-- ---- what the functions of `inner` ask

-- a cursor at a segment, whose fields and table are in their places
pub record Seated (kinds : List ℕ) (fields tables : List Float) (at : Cursor) : Type 0 where
  pub standing : Standing kinds tables at
  pub fielded : Fielded kinds fields

-- a stored path with a segment
pub record Flyable (b : Buffers) : Type 0 where
  pub some : 0 < length b.kinds
  pub path : Stored b
