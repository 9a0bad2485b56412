-- `QuadBezier` (source document 001, bezier.rs), each operation rounded once in its order. Definitions only.
use Rattle.std.specs.Prelude.{Float, Result}
use Rattle.std.specs.Float.{binary32}
use Rattle.std.specs.Float.Ieee.{of_bits, sub, mul}
use Rattle.floats.specs.Floats.{one_f, clamp01_of}
use Rattle.answers.specs.declared.refusals.Refusal.{Refusal}
use Rattle.math.specs.declared.points.Point.{Point}
use Rattle.math.specs.Math.{add_of, sub_of, scale_of, lerp_point_of}
use Rattle.table.specs.Lookup.{raw_of}
use Rattle.table_samples.specs.Samples.{table_of}
use Rattle.angles.specs.Angles.{rotation_deg_of}
use Rattle.bezier.specs.declared.quads.QuadBezier.{QuadBezier}
use Rattle.bezier.specs.Curves.{verdict_of, made_by, ahead_of, placed_of, turned_of, direction_by}

-- 2
unfoldable pub two_f : Float
two_f = of_bits binary32 0x4000_0000

-- `sample` at an already clamped t: between the two points at t of the legs
abbrev pub quad_at : Point → Point → Point → Float → Point
quad_at start control end t = lerp_point_of (lerp_point_of start control t) (lerp_point_of control end t) t

-- `sample`, which clamps what it is given
unfoldable pub quad_sample_of : Point → Point → Point → Float → Point
quad_sample_of start control end raw = quad_at start control end (clamp01_of raw)

-- `derivative`: `2.0 * (1.0 - raw_t)` times the first leg, plus `2.0 * raw_t` times the second
unfoldable pub quad_derivative_of : Point → Point → Point → Float → Point
quad_derivative_of start control end raw =
    add_of (scale_of (sub_of control start) (mul binary32 two_f (sub binary32 one_f raw))) (scale_of (sub_of end control) (mul binary32 two_f raw))

-- `new`: the table holds the running lengths of the samples
unfoldable pub quad_of : Point → Point → Point → QuadBezier
quad_of start control end = record { start = start; control = control; end = end; table = table_of (quad_sample_of start control end) }

unfoldable pub made_quad_of : Point → Point → Point → Result QuadBezier Refusal
unfolding quad_of
made_quad_of start control end = made_by (verdict_of (table_of (quad_sample_of start control end)).total) (quad_of start control end)

-- the raw parameter of a progress along the curve
abbrev pub quad_raw : QuadBezier → Float → Float
quad_raw curve progress = raw_of curve.table.entries curve.table.total progress

-- `position`
unfoldable pub quad_position_of : QuadBezier → Float → Point
unfolding quad_sample_of
quad_position_of curve progress = quad_sample_of curve.start curve.control curve.end (quad_raw curve progress)

-- the direction at a raw parameter: the derivative's, or where that is (0, 0), the one from the sample there to the sample further on
unfoldable pub quad_direction : Point → Point → Point → Float → Float → Point
quad_direction start control end raw further = direction_by (quad_sample_of start control end) (quad_derivative_of start control end) raw further

-- `tangent` at the raw parameter of a progress: the second try is made from the progress as it was given
unfoldable pub quad_tangent_at : QuadBezier → Float → Float → Point
unfolding quad_direction
quad_tangent_at curve raw progress = quad_direction curve.start curve.control curve.end raw (quad_raw curve (ahead_of progress))

-- `tangent`
unfoldable pub quad_tangent_of : QuadBezier → Float → Point
unfolding quad_tangent_at
quad_tangent_of curve progress = quad_tangent_at curve (quad_raw curve progress) progress

-- the two as answers
unfoldable pub quad_placed_of : QuadBezier → Float → Result Point Refusal
unfolding quad_position_of
quad_placed_of curve progress = placed_of curve.table (quad_position_of curve progress)

unfoldable pub quad_heading_of : QuadBezier → Float → Result Point Refusal
unfolding quad_tangent_of
quad_heading_of curve progress = placed_of curve.table (quad_tangent_of curve progress)

-- `rotation_deg` of the tangent
unfoldable pub quad_turned_of : QuadBezier → Float → Result Float Refusal
unfolding quad_tangent_of
quad_turned_of curve progress = turned_of curve.table (rotation_deg_of (quad_tangent_of curve progress))
