-- `position`, `tangent` and `rotation_deg` of a `PathSegment` (source document 002), a case for each kind in its order. The progress is along the segment and is clamped; the table is the
-- segment's own: one that is not sound is refused, and a line and a line fallback have none. Definitions only.
use Rattle.std.specs.Prelude.{false, Float, Result, Ok}
use Rattle.answers.specs.declared.refusals.Refusal.{Refusal}
use Rattle.math.specs.declared.points.Point.{Point}
use Rattle.table.specs.declared.tables.Table.{Table}
use Rattle.bezier.specs.declared.quads.QuadBezier.{QuadBezier}
use Rattle.bezier.specs.declared.cubics.CubicBezierCurve.{CubicBezierCurve}
use Rattle.bezier.specs.Quads.{quad_placed_of, quad_heading_of}
use Rattle.bezier.specs.Cubics.{cubic_placed_of, cubic_heading_of}
use Rattle.ellipse.specs.declared.ends.Arc.{Arc}
use Rattle.arc.specs.declared.arcs.EllipticalArc.{EllipticalArc}
use Rattle.arc.specs.Lines.{line_position_of, line_tangent_of}
use Rattle.arc.specs.Arcs.{chord_line, arc_placed_of, arc_heading_of, in_degrees}
use Rattle.path_segment.specs.declared.segments.PathSegment.{PathSegment}
use Rattle.path_segment.specs.declared.segments.PathSegment.TheVariants as Segment

-- a quad, a cubic and an arc with their table, as the Rust holds them
abbrev pub quad_with : Point → Point → Point → Table → QuadBezier
quad_with start control end table = record { start = start; control = control; end = end; table = table }

abbrev pub cubic_with : Point → Point → Point → Point → Table → CubicBezierCurve
cubic_with start control1 control2 end table = record { start = start; control1 = control1; control2 = control2; end = end; table = table }

abbrev pub arc_with : Arc → Table → EllipticalArc
arc_with shape table = record { shape = shape; line_fallback = false; table = table }

-- `position`: of a line `lerp_point` at the clamped t, whatever its length; of a fallback its line's
unfoldable pub position_of : PathSegment → Table → Float → Result Point Refusal
position_of (Segment.Line line) table along = Ok (line_position_of line along)
position_of (Segment.Quad start control end) table along = quad_placed_of (quad_with start control end table) along
position_of (Segment.Cubic start control1 control2 end) table along = cubic_placed_of (cubic_with start control1 control2 end table) along
position_of (Segment.Arc shape) table along = arc_placed_of (arc_with shape table) along
position_of (Segment.Fallback shape) table along = Ok (line_position_of (chord_line shape) along)

-- `tangent`
unfoldable pub tangent_of : PathSegment → Table → Float → Result Point Refusal
tangent_of (Segment.Line line) table along = Ok (line_tangent_of line)
tangent_of (Segment.Quad start control end) table along = quad_heading_of (quad_with start control end table) along
tangent_of (Segment.Cubic start control1 control2 end) table along = cubic_heading_of (cubic_with start control1 control2 end table) along
tangent_of (Segment.Arc shape) table along = arc_heading_of (arc_with shape table) along
tangent_of (Segment.Fallback shape) table along = Ok (line_tangent_of (chord_line shape))

-- `rotation_deg`: that of the tangent
unfoldable pub rotation_of : PathSegment → Table → Float → Result Float Refusal
unfolding tangent_of
rotation_of segment table along = in_degrees (tangent_of segment table along)
