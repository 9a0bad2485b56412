-- Where a segment is and where it heads, at its raw parameter (source documents 001 and 002, `position` and `tangent` of each kind of `PathSegment`). Definitions only.
use Rattle.std.specs.Prelude.{Float}
use Rattle.math.specs.declared.points.Point.{Point}
use Rattle.bezier.specs.Quads.{quad_sample_of, quad_direction}
use Rattle.bezier.specs.Cubics.{cubic_sample_of, cubic_direction}
use Rattle.ellipse.specs.Shape.{point_on, direction_on}
use Rattle.arc.specs.Lines.{line_point_of, line_tangent_of}
use Rattle.arc.specs.Arcs.{chord_line}
use Rattle.path_segment.specs.declared.segments.PathSegment.{PathSegment}
use Rattle.path_segment.specs.declared.segments.PathSegment.TheVariants as Segment

-- `position`: the sample at the raw parameter; a fallback's is its line's
unfoldable pub sample_of : PathSegment → Float → Point
sample_of (Segment.Line line) raw = line_point_of line raw
sample_of (Segment.Quad start control end) raw = quad_sample_of start control end raw
sample_of (Segment.Cubic start control1 control2 end) raw = cubic_sample_of start control1 control2 end raw
sample_of (Segment.Arc shape) raw = point_on shape raw
sample_of (Segment.Fallback shape) raw = line_point_of (chord_line shape) raw

-- `tangent`; only quads and cubics look at what is further on
unfoldable pub heading_of : PathSegment → Float → Float → Point
unfolding quad_direction cubic_direction
heading_of (Segment.Line line) raw further = line_tangent_of line
heading_of (Segment.Quad start control end) raw further = quad_direction start control end raw further
heading_of (Segment.Cubic start control1 control2 end) raw further = cubic_direction start control1 control2 end raw further
heading_of (Segment.Arc shape) raw further = direction_on shape raw
heading_of (Segment.Fallback shape) raw further = line_tangent_of (chord_line shape)
