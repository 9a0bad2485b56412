-- The angles of math.rs (source document 003), operation by operation: "Each operation rounds once in the order of the Rust". Angles are in
-- radians but for the heading, which is in degrees. Definitions only.
use Rattle.std.specs.Prelude.{Bool, ◌&&◌, cond, Float}
use Rattle.std.specs.Float.{binary32}
use Rattle.std.specs.Float.Ieee.{of_bits, neg, sub, mul, div, lt, eq}
use Rattle.floats.specs.Floats.{zero_f, one_f, epsilon_f, max_of, clamp_of}
use Rattle.root.specs.Root.{sqrt_of}
use Rattle.atan2_rule.specs.Steps.{atan2_of}
use Rattle.math.specs.declared.points.Point.{Point}
use Rattle.math.specs.Math.{length_of, dot_of, rad_to_deg_of}

-- -1
unfoldable pub minus_one_f : Float
unfolding one_f
minus_one_f = neg one_f

-- no direction: both coordinates are zeros, of either sign
abbrev pub still : Point → Bool
still tangent = eq tangent.x (of_bits binary32 0) && eq tangent.y (of_bits binary32 0)

-- rotation_deg: 0 for no direction, else the angle of the tangent in degrees
unfoldable pub rotation_deg_of : Point → Float
unfolding zero_f
rotation_deg_of tangent = cond (still tangent) zero_f (rad_to_deg_of (atan2_of tangent.y tangent.x))

-- ---- angle_between, by its locals

-- u[0] * v[1] - u[1] * v[0]
unfoldable pub cross_of : Point → Point → Float
cross_of u v = sub binary32 (mul binary32 u.x v.y) (mul binary32 u.y v.x)

-- sign
unfoldable pub sign_of : Point → Point → Float
unfolding cross_of zero_f one_f minus_one_f
sign_of u v = cond (lt (cross_of u v) zero_f) minus_one_f one_f

-- denom: the product of the lengths, at least 2^-23
unfoldable pub denom_of : Point → Point → Float
unfolding epsilon_f
denom_of u v = max_of (mul binary32 (length_of u) (length_of v)) epsilon_f

-- value: the cosine of the angle
unfoldable pub cosine_of_angle : Point → Point → Float
unfolding denom_of one_f minus_one_f
cosine_of_angle u v = clamp_of (div binary32 (dot_of u v) (denom_of u v)) minus_one_f one_f

-- the sine that goes with a cosine: the root of 1 - value·value, or of 0 where that is below 0 or a NaN
unfoldable pub sine_beside : Float → Float
unfolding zero_f one_f
sine_beside value = sqrt_of (max_of (sub binary32 one_f (mul binary32 value value)) zero_f)

unfoldable pub angle_between_of : Point → Point → Float
unfolding sign_of cosine_of_angle sine_beside
angle_between_of u v = mul binary32 (sign_of u v) (atan2_of (sine_beside (cosine_of_angle u v)) (cosine_of_angle u v))
