-- Points and directions on the ellipse of an arc: `sample` and `tangent` of poly.rs (source document 002; F.6.3). Definitions only.
use Rattle.std.specs.Prelude.{Float}
use Rattle.std.specs.Float.{binary32}
use Rattle.std.specs.Float.Ieee.{neg, add, sub, mul}
use Rattle.floats.specs.Floats.{clamp01_of}
use Rattle.trig.specs.declared.SinCos.{SinCos}
use Rattle.trig_rule.specs.Steps.{sine_of, cosine_of}
use Rattle.math.specs.declared.points.Point.{Point}
use Rattle.math.specs.Math.{point_of, normalize_of}
use Rattle.ellipse.specs.declared.ends.Arc.{Arc}
use Rattle.ellipse.specs.Turn.{turn_of}

-- a·b·c, the first product rounded before the second
abbrev pub product : Float → Float → Float → Float
product a b c = mul binary32 (mul binary32 a b) c

-- the point at an angle, F.6.3, from the sines and cosines of rotation and angle
unfoldable pub on_ellipse : Point → Point → Float → Float → Float → Float → Point
on_ellipse center radii sin-phi cos-phi sin-angle cos-angle =
    point_of
    (sub binary32 (add binary32 center.x (product cos-phi radii.x cos-angle)) (product sin-phi radii.y sin-angle))
    (add binary32 (add binary32 center.y (product sin-phi radii.x cos-angle)) (product cos-phi radii.y sin-angle))

-- its derivative, times how far the arc turns
unfoldable pub slope_of : Float → Point → Float → Float → Float → Float → Point
slope_of delta radii sin-phi cos-phi sin-angle cos-angle =
    point_of
    (mul binary32 delta (sub binary32 (product (neg cos-phi) radii.x sin-angle) (product sin-phi radii.y cos-angle)))
    (mul binary32 delta (add binary32 (product (neg sin-phi) radii.x sin-angle) (product cos-phi radii.y cos-angle)))

-- the angle at a share t of the turn
abbrev pub angle_at : Arc → Float → Float
angle_at arc t = add binary32 arc.start_angle (mul binary32 arc.delta_angle t)

-- sample: the share is clamped. Every sample of one arc has the same turn.
unfoldable pub point_turned : Arc → SinCos → Float → Point
unfolding on_ellipse
point_turned arc turn t =
    let angle = angle_at arc (clamp01_of t) in
    on_ellipse arc.center arc.radii turn.sin turn.cos (sine_of angle) (cosine_of angle)

unfoldable pub point_on : Arc → Float → Point
unfolding point_turned
point_on arc t = point_turned arc (turn_of arc.x_axis_rotation) t

-- tangent: the share as it is
unfoldable pub direction_on : Arc → Float → Point
unfolding slope_of
direction_on arc t =
    let angle = angle_at arc t in
    let turn = turn_of arc.x_axis_rotation in
    normalize_of (slope_of arc.delta_angle arc.radii turn.sin turn.cos (sine_of angle) (cosine_of angle))
