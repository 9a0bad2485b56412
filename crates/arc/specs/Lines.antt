-- `LineSegment` (document 01, "Missing in the text given, so fixed here"), each operation rounded once. Definitions only.
use Rattle.std.specs.Prelude.{Float, Result}
use Rattle.answers.specs.declared.refusals.Refusal.{Refusal}
use Rattle.floats.specs.Floats.{clamp01_of}
use Rattle.math.specs.declared.points.Point.{Point}
use Rattle.math.specs.Math.{sub_of, distance_of, normalize_of, lerp_point_of}
use Rattle.angles.specs.Angles.{rotation_deg_of}
use Rattle.bezier.specs.Curves.{verdict_of, made_by}
use Rattle.arc.specs.declared.lines.LineSegment.{LineSegment}

-- "of `LineSegment`, length is `distance` of the ends"
unfoldable pub line_length_of : LineSegment → Float
line_length_of line = distance_of line.start line.end

-- the point at the line's own parameter
unfoldable pub line_point_of : LineSegment → Float → Point
line_point_of line raw = lerp_point_of line.start line.end raw

-- "position `lerp_point` at the clamped t"
unfoldable pub line_position_of : LineSegment → Float → Point
unfolding line_point_of
line_position_of line progress = line_point_of line (clamp01_of progress)

-- "tangent `normalize` of end minus start"
unfoldable pub line_tangent_of : LineSegment → Point
line_tangent_of line = normalize_of (sub_of line.end line.start)

-- `rotation_deg`: the tangent in degrees
unfoldable pub line_rotation_deg_of : LineSegment → Float
unfolding line_tangent_of
line_rotation_deg_of line = rotation_deg_of (line_tangent_of line)

-- the line from start to end
abbrev pub line_of : Point → Point → LineSegment
line_of start end = record { start = start; end = end }

-- "NotFinite: a running length becomes infinite or NaN"
unfoldable pub made_line_of : Point → Point → Result LineSegment Refusal
unfolding line_length_of
made_line_of start end = made_by (verdict_of (line_length_of (line_of start end))) (line_of start end)
