-- `EllipticalArc` (source document 002, poly.rs; document 01, "Arcs" and "The answers"), over the ellipse of `from_ends`. Definitions only.
use Rattle.std.specs.Prelude.{Bool, true, false, ◌||◌, cond, List, replicate, Float, Result, Ok, Err}
use Rattle.std.specs.Float.Ieee.{le}
use Rattle.std.specs.Float.Ieee.Scale.{finite}
use Rattle.answers.specs.declared.refusals.Refusal.{Refusal}
use Rattle.answers.specs.declared.refusals.Refusal.TheVariants.{RotationRange}
use Rattle.floats.specs.Floats.{zero_f, one_f, epsilon_f}
use Rattle.math.specs.declared.points.Point.{Point}
use Rattle.math.specs.Math.{origin_f, distance_of}
use Rattle.angles.specs.Angles.{rotation_deg_of}
use Rattle.table.specs.declared.tables.Table.{Table}
use Rattle.table.specs.Lookup.{raw_of}
use Rattle.table_samples.specs.Samples.{table_of}
use Rattle.bezier.specs.Curves.{verdict_of, made_by, placed_of}
use Rattle.ellipse.specs.declared.ends.Chord.{Chord}
use Rattle.ellipse.specs.declared.ends.Arc.{Arc}
use Rattle.ellipse.specs.Ends.{size_of, from_ends_of}
use Rattle.ellipse.specs.Shape.{point_on, direction_on}
use Rattle.arc.specs.declared.lines.LineSegment.{LineSegment}
use Rattle.arc.specs.declared.arcs.EllipticalArc.{EllipticalArc}
use Rattle.arc.specs.Lines.{line_of, line_length_of, line_position_of, line_tangent_of}

-- ---- making one

-- "Ends within 2^-23, or a radius that small, give the line fallback": a comparison with a NaN fails
unfoldable pub is_fallback : Chord → Bool
unfolding epsilon_f
is_fallback chord = le (distance_of chord.start chord.end) epsilon_f || le (size_of chord.radii.x) epsilon_f || le (size_of chord.radii.y) epsilon_f

-- `line_fallback`: the ends and the rotation are kept, the rest is 0
unfoldable pub fallback_shape : Chord → Arc
unfolding zero_f origin_f
fallback_shape chord =
    record {
      start = chord.start;
      end = chord.end;
      center = origin_f;
      radii = origin_f;
      x_axis_rotation = chord.x_axis_rotation;
      start_angle = zero_f;
      delta_angle = zero_f;
    }

-- "the line fallback, which has no table here": what stands in its place is not sound
unfoldable pub no_table : Table
unfolding zero_f one_f
no_table = record { entries = replicate 32 zero_f; total = one_f }

-- the line between an arc's ends
abbrev pub chord_line : Arc → LineSegment
chord_line shape = line_of shape.start shape.end

-- "`arc_length` of an arc is its table's total (a fallback's, the line's)", which is judged
unfoldable pub fallen_back : Chord → Result EllipticalArc Refusal
unfolding fallback_shape no_table line_length_of
fallen_back chord =
    made_by (verdict_of (line_length_of (line_of chord.start chord.end)))
    (record { shape = fallback_shape chord; line_fallback = true; table = no_table })

unfoldable pub fitted : Chord → Result EllipticalArc Refusal
fitted chord =
    made_by (verdict_of (table_of (point_on (from_ends_of chord))).total)
    (record { shape = from_ends_of chord; line_fallback = false; table = table_of (point_on (from_ends_of chord)) })

-- "In what a refusal carries, a lone segment is segment 0."
unfoldable pub out_of_range : Chord → Result EllipticalArc Refusal
out_of_range chord = Err (RotationRange 0)

-- `from_svg`: the fallback first; "10 before 11"
unfoldable pub made_arc_of : Chord → Result EllipticalArc Refusal
unfolding is_fallback fallen_back fitted out_of_range
made_arc_of chord = cond (is_fallback chord) (fallen_back chord) (cond (finite chord.x_axis_rotation) (fitted chord) (out_of_range chord))

-- ---- its queries

-- `position` and `tangent` of an ellipse's arc, at the raw parameter of a progress along it
abbrev pub arc_raw : Table → Float → Float
arc_raw table progress = raw_of table.entries table.total progress

unfoldable pub arc_position_of : Arc → Table → Float → Point
arc_position_of shape table progress = point_on shape (arc_raw table progress)

unfoldable pub arc_tangent_of : Arc → Table → Float → Point
arc_tangent_of shape table progress = direction_on shape (arc_raw table progress)

-- the two as answers; a fallback's are the line's
unfoldable pub arc_placed_of : EllipticalArc → Float → Result Point Refusal
unfolding arc_position_of line_position_of
arc_placed_of arc progress =
    cond arc.line_fallback (Ok (line_position_of (chord_line arc.shape) progress)) (placed_of arc.table (arc_position_of arc.shape arc.table progress))

unfoldable pub arc_heading_of : EllipticalArc → Float → Result Point Refusal
unfolding arc_tangent_of line_tangent_of
arc_heading_of arc progress =
    cond arc.line_fallback (Ok (line_tangent_of (chord_line arc.shape))) (placed_of arc.table (arc_tangent_of arc.shape arc.table progress))

-- `rotation_deg`: the tangent in degrees
abbrev pub in_degrees : Result Point Refusal → Result Float Refusal
in_degrees (Ok tangent) = Ok (rotation_deg_of tangent)
in_degrees (Err refusal) = Err refusal

unfoldable pub arc_turned_of : EllipticalArc → Float → Result Float Refusal
unfolding arc_heading_of
arc_turned_of arc progress = in_degrees (arc_heading_of arc progress)

-- "`arc_length` of an arc is its table's total (a fallback's, the line's)"
unfoldable pub arc_length_of : EllipticalArc → Float
unfolding line_length_of
arc_length_of arc = cond arc.line_fallback (line_length_of (chord_line arc.shape)) arc.table.total
