-- What quads and cubics share (source document 001, bezier.rs). Definitions only.
use Rattle.std.specs.Prelude.{Bool, ◌&&◌, cond, Float, Result, Ok, Err}
use Rattle.std.specs.Float.{binary32}
use Rattle.std.specs.Float.Ieee.{add, eq}
use Rattle.std.specs.Float.Ieee.Scale.{finite}
use Rattle.answers.specs.declared.refusals.Refusal.{Refusal}
use Rattle.answers.specs.declared.refusals.Refusal.TheVariants.{NotFinite, BadPath}
use Rattle.floats.specs.Floats.{zero_f, one_f, min_of}
use Rattle.math.specs.declared.points.Point.{Point}
use Rattle.math.specs.Math.{sub_of, normalize_of}
use Rattle.table.specs.Lookup.{thousandth_f, raw_of}
use Rattle.table.specs.declared.tables.Table.{Table}
use Rattle.table.specs.Sound.{table_is_sound}

-- `tangent == [0.0, 0.0]`
unfoldable pub is_nothing : Point → Bool
is_nothing p = eq p.x zero_f && eq p.y zero_f

-- `(t + 0.001).min(1.0)`: a NaN goes to 1
unfoldable pub ahead_of : Float → Float
ahead_of progress = min_of (add binary32 progress thousandth_f) one_f

-- "NotFinite: a running length becomes infinite or NaN", of which the last is the total; "a lone segment is segment 0"
unfoldable pub verdict_of : Float → Result (Unit {0}) Refusal
verdict_of total = cond (finite total) (Ok tt) (Err (NotFinite 0))

-- a curve that was made, or the refusal of its total
abbrev pub made_by : {Curve : Type 0} → Result (Unit {0}) Refusal → Curve → Result Curve Refusal
made_by (Ok done) curve = Ok curve
made_by (Err refusal) curve = Err refusal

-- the direction, or where it is (0, 0), the one by two positions
unfoldable pub second_try : Point → Point → Point
unfolding is_nothing
second_try first second = cond (is_nothing first) second first

-- "A path or spline query: 12 only.": a place, where the table is sound
unfoldable pub placed_of : Table → Point → Result Point Refusal
unfolding table_is_sound
placed_of table p = cond (table_is_sound table.entries table.total) (Ok p) (Err BadPath)

-- the same of a heading in degrees
unfoldable pub turned_of : Table → Float → Result Float Refusal
unfolding table_is_sound
turned_of table degrees = cond (table_is_sound table.entries table.total) (Ok degrees) (Err BadPath)

-- ---- the queries of a curve with this formula and derivative

-- `position`: the sample at the raw parameter of a progress
abbrev pub position_by : (Float → Point) → Table → Float → Point
position_by sample table progress = sample (raw_of table.entries table.total progress)

-- the direction at a raw parameter: the derivative's, or where that is (0, 0), the one from the sample there to the sample further on
abbrev pub direction_by : (Float → Point) → (Float → Point) → Float → Float → Point
direction_by sample derivative raw further = second_try (normalize_of (derivative raw)) (normalize_of (sub_of (sample further) (sample raw)))

-- `tangent` at the raw parameter of a progress: the second try is made from the progress as it was given
abbrev pub tangent_at_by : (Float → Point) → (Float → Point) → Table → Float → Float → Point
tangent_at_by sample derivative table raw progress = direction_by sample derivative raw (raw_of table.entries table.total (ahead_of progress))

-- `tangent`
abbrev pub tangent_by : (Float → Point) → (Float → Point) → Table → Float → Point
tangent_by sample derivative table progress = tangent_at_by sample derivative table (raw_of table.entries table.total progress) progress
