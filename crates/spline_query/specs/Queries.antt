-- A stored spline and its queries (document 01, "Stored path check" and "Lengths, tables and lookup"; source document 001, bezier.rs, `CatmullRomSpline`; source document 002, poly.rs,
-- `PolyPath`). Points are a list of numbers, x before y; the table's entries are running lengths in path units. Definitions only.
use Rattle.std.specs.Prelude.{◌≡◌, ◌+◌, ◌≤◌, Bool, not, ◌&&◌, cond, List, T, leb, eqb, length, Float, Some, Result, Ok, Err}
use Rattle.answers.specs.declared.refusals.Refusal.{Refusal}
use Rattle.answers.specs.declared.refusals.Refusal.TheVariants.{BadPath}
use Rattle.angles.specs.Angles.{rotation_deg_of}
use Rattle.table.specs.Lookup.{at, last_of, raw_of}
use Rattle.table.specs.Sound.{table_is_sound}
use Rattle.flight.specs.declared.Flight.{Flight}
use Rattle.polyline.specs.Points.{count_of}
use Rattle.polyline.specs.Judging.{is_odd}
use Rattle.spline.specs.Formula.{spline_sample_of, spline_direction_of}
use Rattle.spline_table.specs.Tables.{last_entry_of, most_points}

-- ---- the check

-- a table's total is its last entry, and stands nowhere else
abbrev pub spline_total : List Float → Float
spline_total table = at table (last_of table)

-- "A stored spline: an even list of at most 4,096 points, and a table of the size below under the same rule.": "16 entries per span plus one, a single 0 below two points"; "starts at 0,
-- is finite, never falls, and its total is its last entry"
unfoldable pub spline_is_sound : List Float → List Float → Bool
spline_is_sound points table =
    not (is_odd points) && (leb (count_of points) most_points && (eqb (length table) (last_entry_of (count_of points) + 1) && table_is_sound table (spline_total table)))

-- ---- what a sound spline gives

-- the raw parameter of a progress
abbrev pub spline_raw : List Float → Float → Float
spline_raw table progress = raw_of table (spline_total table) progress

-- `position` and `tangent` at one raw parameter; "segment number (0 for a spline)" (change request L4), also without points
unfoldable pub spline_flight_of : List Float → List Float → Float → Flight
spline_flight_of points table progress =
    let raw = spline_raw table progress in
    record { position = spline_sample_of points raw; tangent = spline_direction_of points raw; segment = Some 0; raw = record { value = raw } }

-- ---- "A path or spline query: 12 only."
unfoldable pub spline_flown_of : List Float → List Float → Float → Result Flight Refusal
spline_flown_of points table progress = cond (spline_is_sound points table) (Ok (spline_flight_of points table progress)) (Err BadPath)

-- `rotation_deg` of the tangent, in degrees
unfoldable pub spline_turned_of : List Float → List Float → Float → Result Float Refusal
spline_turned_of points table progress = cond (spline_is_sound points table) (Ok (rotation_deg_of (spline_flight_of points table progress).tangent)) (Err BadPath)

-- `arc_length`
unfoldable pub spline_measured_of : List Float → List Float → Result Float Refusal
spline_measured_of points table = cond (spline_is_sound points table) (Ok (spline_total table)) (Err BadPath)

-- ---- what holds of a spline that passed the check
pub record SoundSpline (points table : List Float) : Type 0 where
  pub few : count_of points ≤ most_points
  pub counted : length table ≡ last_entry_of (count_of points) + 1
  pub sound : T (table_is_sound table (spline_total table))
