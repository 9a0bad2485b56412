-- A segment of a path and its stored form (document 01, "Stored path check"; source document 002, `PathSegment`). Coordinates, radii and lengths are `f32` values in path units,
-- a rotation in degrees, the angles in radians. Definitions only.
use Rattle.std.specs.Prelude.{ℕ, ◌+◌, ◌≡◌, Bool, cond, List, [], ◌∷◌, ◌++◌, eqb, get_or, take, drop, Float}
use Rattle.std.specs.Float.{nan}
use Rattle.std.proofs.lemmas.List.Edits.{sets}
use Rattle.math.specs.declared.points.Point.{Point}
use Rattle.table.specs.declared.tables.Table.{Table}
use Rattle.table_samples.specs.Samples.{table_of}
use Rattle.bezier.specs.Quads.{quad_sample_of}
use Rattle.bezier.specs.Cubics.{cubic_sample_of}
use Rattle.ellipse.specs.declared.ends.Arc.{Arc}
use Rattle.ellipse.specs.Shape.{point_on}
use Rattle.commands.specs.Listed.{number_at, point_at}
use Rattle.arc.specs.Lines.{line_length_of}
use Rattle.arc.specs.Arcs.{no_table, chord_line}
use Rattle.path_segment.specs.declared.segments.PathSegment.{PathSegment}
use Rattle.path_segment.specs.declared.segments.PathSegment.TheVariants as Segment

-- ---- the stored form

-- "segments of known kinds": a line, a quad, a cubic, an arc, an arc that fell back to a line
abbrev pub kind_of : PathSegment → ℕ
kind_of (Segment.Line line) = 0
kind_of (Segment.Quad start control end) = 1
kind_of (Segment.Cubic start control1 control2 end) = 2
kind_of (Segment.Arc shape) = 3
kind_of (Segment.Fallback shape) = 4

-- "with exactly their numbers": how many a kind has
unfoldable pub width_of : ℕ → ℕ
width_of kind = get_or (4 ∷ 6 ∷ 8 ∷ 11 ∷ 11 ∷ []) kind 0

-- "and tables": "each table (quad, cubic, non-fallback arc)"
unfoldable pub tables_of : ℕ → ℕ
tables_of kind = get_or (0 ∷ 1 ∷ 1 ∷ 1 ∷ 0 ∷ []) kind 0

unfoldable pub has_table : ℕ → Bool
unfolding tables_of
has_table kind = eqb (tables_of kind) 1

-- a point's two fields, and what follows
abbrev pub xy : Point → List Float → List Float
xy p rest = p.x ∷ p.y ∷ rest

-- "the Rust's fields without `length` and `line_fallback`", in its order
abbrev pub shape_fields : Arc → List Float
shape_fields shape =
    xy shape.start (xy shape.end (xy shape.center (xy shape.radii (shape.x_axis_rotation ∷ shape.start_angle ∷ shape.delta_angle ∷ []))))

abbrev pub fields_of : PathSegment → List Float
fields_of (Segment.Line line) = xy line.start (xy line.end [])
fields_of (Segment.Quad start control end) = xy start (xy control (xy end []))
fields_of (Segment.Cubic start control1 control2 end) = xy start (xy control1 (xy control2 (xy end [])))
fields_of (Segment.Arc shape) = shape_fields shape
fields_of (Segment.Fallback shape) = shape_fields shape

-- the segment of a kind and of the fields from its first on; an unknown kind reads as the last known
abbrev pub shape_of : List Float → Arc
shape_of fields =
    record {
      start = point_at fields 0;
      end = point_at fields 2;
      center = point_at fields 4;
      radii = point_at fields 6;
      x_axis_rotation = number_at fields 8;
      start_angle = number_at fields 9;
      delta_angle = number_at fields 10;
    }

unfoldable pub segment_of : ℕ → List Float → PathSegment
segment_of kind fields =
    cond (eqb kind 0) (Segment.Line (record { start = point_at fields 0; end = point_at fields 2 }))
    (cond (eqb kind 1) (Segment.Quad (point_at fields 0) (point_at fields 2) (point_at fields 4))
    (cond (eqb kind 2) (Segment.Cubic (point_at fields 0) (point_at fields 2) (point_at fields 4) (point_at fields 6))
    (cond (eqb kind 3) (Segment.Arc (shape_of fields))
    (Segment.Fallback (shape_of fields)))))

-- ---- its table and its length

-- "The table holds 32 running lengths and their total together": 32 numbers, then the total
abbrev pub table_numbers : Table → List Float
table_numbers table = table.entries ++ table.total ∷ []

-- the table whose numbers stand from `at` on
abbrev pub table_at : List Float → ℕ → Table
table_at tables at = record { entries = take 32 (drop at tables); total = get_or tables (at + 32) nan }

-- `new` of a quad and a cubic, `from_svg` of an arc; a line and a line fallback store none, and `no_table` is not sound
unfoldable pub table_for : PathSegment → Table
table_for (Segment.Line line) = no_table
table_for (Segment.Quad start control end) = table_of (quad_sample_of start control end)
table_for (Segment.Cubic start control1 control2 end) = table_of (cubic_sample_of start control1 control2 end)
table_for (Segment.Arc shape) = table_of (point_on shape)
table_for (Segment.Fallback shape) = no_table

-- the 33 numbers of its table, where a segment has one
unfoldable pub table_stored : PathSegment → List Float
table_stored segment = cond (has_table (kind_of segment)) (table_numbers (table_for segment)) []

-- "`arc_length` of an arc is its table's total (a fallback's, the line's); of `LineSegment`, length is `distance` of the ends"
unfoldable pub length_for : PathSegment → Float
length_for (Segment.Line line) = line_length_of line
length_for (Segment.Quad start control end) = (table_of (quad_sample_of start control end)).total
length_for (Segment.Cubic start control1 control2 end) = (table_of (cubic_sample_of start control1 control2 end)).total
length_for (Segment.Arc shape) = (table_of (point_on shape)).total
length_for (Segment.Fallback shape) = line_length_of (chord_line shape)

-- a table is stored from `at` on, where the segment has one, and the segment's length is told
pub record TableStored (at : ℕ) (segment : PathSegment) (tables : List Float) (r : Float) (tables' : List Float) : Type 0 where
  pub length_told : r ≡ length_for segment
  pub tables_after : tables' ≡ sets tables at (table_stored segment)
