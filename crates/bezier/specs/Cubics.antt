-- `CubicBezierCurve` (source document 001, bezier.rs), each operation rounded once in its order. Definitions only.
use Rattle.std.specs.Prelude.{Float, Result}
use Rattle.std.specs.Float.{binary32}
use Rattle.std.specs.Float.Ieee.{of_bits, sub, mul}
use Rattle.floats.specs.Floats.{one_f, clamp01_of}
use Rattle.answers.specs.declared.refusals.Refusal.{Refusal}
use Rattle.math.specs.declared.points.Point.{Point}
use Rattle.math.specs.Math.{add_of, sub_of, scale_of, lerp_point_of}
use Rattle.table.specs.Lookup.{raw_of}
use Rattle.table_samples.specs.Samples.{table_of}
use Rattle.angles.specs.Angles.{rotation_deg_of}
use Rattle.bezier.specs.declared.cubics.CubicBezierCurve.{CubicBezierCurve}
use Rattle.bezier.specs.Curves.{verdict_of, made_by, ahead_of, placed_of, turned_of, direction_by}
use Rattle.bezier.specs.Quads.{quad_at}

-- 3
unfoldable pub three_f : Float
three_f = of_bits binary32 0x4040_0000

-- 6
unfoldable pub six_f : Float
six_f = of_bits binary32 0x40c0_0000

-- `sample`: between the quads of the first three points and of the last three, at the clamped t
abbrev pub cubic_at : Point → Point → Point → Point → Float → Point
cubic_at start control1 control2 end t = lerp_point_of (quad_at start control1 control2 t) (quad_at control1 control2 end t) t

unfoldable pub cubic_sample_of : Point → Point → Point → Point → Float → Point
cubic_sample_of start control1 control2 end raw = cubic_at start control1 control2 end (clamp01_of raw)

-- `derivative`, with `left` for `1.0 - raw_t`: the first leg times `3.0 * left * left`, the second times `6.0 * left * raw_t`, the third times `3.0 * raw_t * raw_t`
abbrev pub cubic_legs : Point → Point → Point → Point → Float → Float → Point
cubic_legs start control1 control2 end left raw =
    add_of
    (add_of (scale_of (sub_of control1 start) (mul binary32 (mul binary32 three_f left) left)) (scale_of (sub_of control2 control1) (mul binary32 (mul binary32 six_f left) raw)))
    (scale_of (sub_of end control2) (mul binary32 (mul binary32 three_f raw) raw))

unfoldable pub cubic_derivative_of : Point → Point → Point → Point → Float → Point
cubic_derivative_of start control1 control2 end raw = cubic_legs start control1 control2 end (sub binary32 one_f raw) raw

-- `new`: the table holds the running lengths of the samples
unfoldable pub cubic_of : Point → Point → Point → Point → CubicBezierCurve
cubic_of start control1 control2 end =
    record { start = start; control1 = control1; control2 = control2; end = end; table = table_of (cubic_sample_of start control1 control2 end) }

unfoldable pub made_cubic_of : Point → Point → Point → Point → Result CubicBezierCurve Refusal
unfolding cubic_of
made_cubic_of start control1 control2 end = made_by (verdict_of (table_of (cubic_sample_of start control1 control2 end)).total) (cubic_of start control1 control2 end)

-- the raw parameter of a progress along the curve
abbrev pub cubic_raw : CubicBezierCurve → Float → Float
cubic_raw curve progress = raw_of curve.table.entries curve.table.total progress

-- `position`
unfoldable pub cubic_position_of : CubicBezierCurve → Float → Point
unfolding cubic_sample_of
cubic_position_of curve progress = cubic_sample_of curve.start curve.control1 curve.control2 curve.end (cubic_raw curve progress)

-- the direction at a raw parameter, as a quad's
unfoldable pub cubic_direction : Point → Point → Point → Point → Float → Float → Point
cubic_direction start control1 control2 end raw further = direction_by (cubic_sample_of start control1 control2 end) (cubic_derivative_of start control1 control2 end) raw further

-- `tangent` at the raw parameter of a progress: the second try is made from the progress as it was given
unfoldable pub cubic_tangent_at : CubicBezierCurve → Float → Float → Point
unfolding cubic_direction
cubic_tangent_at curve raw progress = cubic_direction curve.start curve.control1 curve.control2 curve.end raw (cubic_raw curve (ahead_of progress))

-- `tangent`
unfoldable pub cubic_tangent_of : CubicBezierCurve → Float → Point
unfolding cubic_tangent_at
cubic_tangent_of curve progress = cubic_tangent_at curve (cubic_raw curve progress) progress

-- the two as answers
unfoldable pub cubic_placed_of : CubicBezierCurve → Float → Result Point Refusal
unfolding cubic_position_of
cubic_placed_of curve progress = placed_of curve.table (cubic_position_of curve progress)

unfoldable pub cubic_heading_of : CubicBezierCurve → Float → Result Point Refusal
unfolding cubic_tangent_of
cubic_heading_of curve progress = placed_of curve.table (cubic_tangent_of curve progress)

-- `rotation_deg` of the tangent
unfoldable pub cubic_turned_of : CubicBezierCurve → Float → Result Float Refusal
unfolding cubic_tangent_of
cubic_turned_of curve progress = turned_of curve.table (rotation_deg_of (cubic_tangent_of curve progress))
