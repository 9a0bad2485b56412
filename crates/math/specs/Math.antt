-- The helpers of math.rs (source document 003), operation by operation: "Each operation rounds once in the order of the Rust". Definitions only.
use Rattle.std.specs.Prelude.{cond, Float}
use Rattle.std.specs.Float.{binary32}
use Rattle.std.specs.Float.Ieee.{of_bits, add, sub, mul, div, le}
use Rattle.floats.specs.Floats.{zero_f, epsilon_f}
use Rattle.lengths.specs.Length as lengths
use Rattle.math.specs.declared.points.Point.{Point}

-- ---- constants

-- "PI is 40490FDB"
unfoldable pub pi_f : Float
pi_f = of_bits binary32 0x4049_0fdb

-- 180
unfoldable pub half_turn_f : Float
half_turn_f = of_bits binary32 0x4334_0000

-- ---- single numbers

-- "`lerp` is a + (b - a)·t"
unfoldable pub lerp_of : Float → Float → Float → Float
lerp_of a b t = add binary32 a (mul binary32 (sub binary32 b a) t)

unfoldable pub deg_to_rad_of : Float → Float
unfolding pi_f half_turn_f
deg_to_rad_of deg = div binary32 (mul binary32 deg pi_f) half_turn_f

unfoldable pub rad_to_deg_of : Float → Float
unfolding pi_f half_turn_f
rad_to_deg_of rad = div binary32 (mul binary32 rad half_turn_f) pi_f

-- ---- points

-- the point (x, y)
abbrev pub point_of : Float → Float → Point
point_of x y = record { x = x; y = y }

-- (0, 0)
unfoldable pub origin_f : Point
unfolding zero_f
origin_f = point_of zero_f zero_f

unfoldable pub add_of : Point → Point → Point
add_of a b = point_of (add binary32 a.x b.x) (add binary32 a.y b.y)

unfoldable pub sub_of : Point → Point → Point
sub_of a b = point_of (sub binary32 a.x b.x) (sub binary32 a.y b.y)

unfoldable pub scale_of : Point → Float → Point
scale_of v s = point_of (mul binary32 v.x s) (mul binary32 v.y s)

-- the sum of the two products, each rounded first
unfoldable pub dot_of : Point → Point → Float
dot_of a b = add binary32 (mul binary32 a.x b.x) (mul binary32 a.y b.y)

-- through f64, by document 02, L9: crate `lengths` says what a length is
unfoldable pub length_of : Point → Float
length_of v = lengths.length_of v.x v.y

unfoldable pub distance_of : Point → Point → Float
unfolding length_of sub_of
distance_of a b = length_of (sub_of b a)

-- (0, 0) where the length is at most 2^-23
unfoldable pub normalize_of : Point → Point
unfolding length_of origin_f epsilon_f
normalize_of v = cond (le (length_of v) epsilon_f) origin_f (point_of (div binary32 v.x (length_of v)) (div binary32 v.y (length_of v)))

-- each coordinate by itself
unfoldable pub lerp_point_of : Point → Point → Float → Point
unfolding lerp_of
lerp_point_of a b t = point_of (lerp_of a.x b.x t) (lerp_of a.y b.y t)
