-- Numbers of at most 2^40 in size, and points of such numbers, in path units. What they are for is a law: no length between them is infinite or a NaN.
-- So too of an arc whose centre and radii are such points and whose angles are at most 16 radians. Definitions only.
use Rattle.std.specs.Prelude.{Bool, ◌&&◌, Float}
use Rattle.std.specs.Float.{binary32}
use Rattle.std.specs.Float.Ieee.{of_bits, neg, le}
use Rattle.math.specs.declared.points.Point.{Point}
use Rattle.rotation.specs.Rotation.{phi_of}
use Rattle.ellipse.specs.declared.ends.Arc.{Arc}
use Rattle.ellipse.specs.declared.ends.Way.{Way}

-- x is at most `bound` in size; a NaN is not
abbrev pub is_within : Float → Float → Bool
is_within bound x = le x bound && le (neg bound) x

-- 2^40 and -2^40
unfoldable pub far_f : Float
far_f = of_bits binary32 0x5380_0000

unfoldable pub back_f : Float
unfolding far_f
back_f = neg far_f

-- a NaN is not
unfoldable pub is_near : Float → Bool
unfolding far_f back_f
is_near x = le x far_f && le back_f x

unfoldable pub is_calm : Point → Bool
unfolding is_near
is_calm p = is_near p.x && is_near p.y

-- 16 and -16
unfoldable pub wide_f : Float
wide_f = of_bits binary32 0x4180_0000

unfoldable pub wide_back_f : Float
unfolding wide_f
wide_back_f = neg wide_f

unfoldable pub is_narrow : Float → Bool
unfolding wide_f wide_back_f
is_narrow x = le x wide_f && le wide_back_f x

-- an arc's angles are in radians, but for its rotation, whose radians are `phi_of`
unfoldable pub is_calm_arc : Arc → Bool
unfolding is_calm is_narrow
is_calm_arc shape =
    is_calm shape.center && is_calm shape.radii && is_narrow shape.start_angle && is_narrow shape.delta_angle && is_narrow (phi_of shape.x_axis_rotation)

-- 2^30 and -2^30
unfoldable pub mild_f : Float
mild_f = of_bits binary32 0x4e80_0000

unfoldable pub mild_back_f : Float
unfolding mild_f
mild_back_f = neg mild_f

unfoldable pub is_mild : Float → Bool
unfolding mild_f mild_back_f
is_mild x = le x mild_f && le mild_back_f x

unfoldable pub is_mild_point : Point → Bool
unfolding is_mild
is_mild_point p = is_mild p.x && is_mild p.y

-- what stands before an arc's angles: so mild that the arc is calm, which is a law
unfoldable pub is_mild_way : Way → Bool
unfolding is_mild_point
is_mild_way way = is_mild_point way.radii && is_mild_point way.middle && is_mild_point way.towards && is_mild_point way.away
