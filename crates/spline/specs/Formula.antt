-- The formula of `CatmullRomSpline` (source document 001, bezier.rs, `sample_raw`), each operation rounded once in its order. Points are a list of numbers, x before y.
-- Definitions only.
use Rattle.std.specs.Prelude.{ℕ, zero, suc, ◌+◌, ◌-◌, ◌<◌, ◌≤◌, min, cond, T, List, pos, ◌==◌, from_bits, nat_lt, Float}
use Rattle.std.specs.Float.{binary32}
use Rattle.std.specs.Float.Ieee.{add, sub, mul, neg, le, of_int, to_unsigned}
use Rattle.floats.specs.Floats.{zero_f, clamp01_of}
use Rattle.math.specs.declared.points.Point.{Point}
use Rattle.math.specs.Math.{origin_f, point_of, sub_of, normalize_of, lerp_point_of}
use Rattle.table.specs.Lookup.{earlier_of, later_of}
use Rattle.polyline.specs.Points.{count_of, point_at}

-- ---- constants, each by its bits

unfoldable pub half_f : Float
half_f = from_bits binary32 0x3f00_0000

unfoldable pub two_f : Float
two_f = from_bits binary32 0x4000_0000

unfoldable pub three_f : Float
three_f = from_bits binary32 0x4040_0000

unfoldable pub four_f : Float
four_f = from_bits binary32 0x4080_0000

unfoldable pub five_f : Float
five_f = from_bits binary32 0x40a0_0000

-- ---- between p1 and p2, one coordinate

-- `(-p0 + p2) * t`
abbrev pub first_term : Float → Float → Float → Float
first_term p0 p2 t = mul binary32 (add binary32 (neg p0) p2) t

-- `(2.0 * p0 - 5.0 * p1 + 4.0 * p2 - p3) * t2`
abbrev pub second_term : Float → Float → Float → Float → Float → Float
second_term p0 p1 p2 p3 t2 = mul binary32 (sub binary32 (add binary32 (sub binary32 (mul binary32 two_f p0) (mul binary32 five_f p1)) (mul binary32 four_f p2)) p3) t2

-- `(-p0 + 3.0 * p1 - 3.0 * p2 + p3) * t3`
abbrev pub third_term : Float → Float → Float → Float → Float → Float
third_term p0 p1 p2 p3 t3 = mul binary32 (add binary32 (sub binary32 (add binary32 (neg p0) (mul binary32 three_f p1)) (mul binary32 three_f p2)) p3) t3

-- `0.5 * (2.0 * p1 + .. + .. + ..)`, with t2 and t3 for the square and the cube of t
unfoldable pub blend_of : Float → Float → Float → Float → Float → Float → Float → Float
blend_of p0 p1 p2 p3 t t2 t3 =
    mul binary32 half_f (add binary32 (add binary32 (add binary32 (mul binary32 two_f p1) (first_term p0 p2 t)) (second_term p0 p1 p2 p3 t2)) (third_term p0 p1 p2 p3 t3))

-- both coordinates: `t2 = t * t`, `t3 = t2 * t`
unfoldable pub span_of : Point → Point → Point → Point → Float → Point
span_of p0 p1 p2 p3 t =
    point_of (blend_of p0.x p1.x p2.x p3.x t (mul binary32 t t) (mul binary32 (mul binary32 t t) t))
    (blend_of p0.y p1.y p2.y p3.y t (mul binary32 t t) (mul binary32 (mul binary32 t t) t))

-- ---- along three points or more

-- `math::clamp01(raw_t) * segments as f32`
unfoldable pub scaled_of : ℕ → Float → Float
scaled_of segments raw = mul binary32 (clamp01_of raw) (of_int binary32 (pos segments))

-- `(scaled as usize).min(segments - 1)`: "The cast of a float to an index is worked out by the program."
unfoldable pub index_of : ℕ → Float → ℕ
index_of segments scaled = min (to_unsigned 64 scaled) (segments - 1)

-- what the cast asks: at least one span, and `scaled` from 0 to their number
pub record InSpans (segments : ℕ) (scaled : Float) : Type 0 where
  pub some : 0 < segments
  pub few : segments ≤ 4095
  pub from : T (le zero_f scaled)
  pub upto : T (le scaled (of_int binary32 (pos segments)))

-- the point before the span, or the first one; the point after it, or the last one
abbrev pub before_span : List Float → ℕ → Point
before_span points index = cond (index == 0) (point_at points 0) (point_at points (index - 1))

abbrev pub after_span : List Float → ℕ → Point
after_span points index = cond (nat_lt (index + 2) (count_of points)) (point_at points (index + 2)) (point_at points (count_of points - 1))

-- the span number `index`, at what is left of `scaled`
unfoldable pub along_of : List Float → Float → ℕ → Point
along_of points scaled index =
    span_of (before_span points index) (point_at points index) (point_at points (index + 1)) (after_span points index) (sub binary32 scaled (of_int binary32 (pos index)))

unfoldable pub curve_of : List Float → ℕ → Float → Point
curve_of points segments scaled = along_of points scaled (index_of segments scaled)

-- ---- `sample_raw`, by the number of points: none, one, two, more
unfoldable pub sample_by : ℕ → List Float → Float → Point
sample_by zero points raw = origin_f
sample_by (suc zero) points raw = point_at points 0
sample_by (suc (suc zero)) points raw = lerp_point_of (point_at points 0) (point_at points 1) (clamp01_of raw)
sample_by (suc (suc (suc n))) points raw = curve_of points (suc (suc n)) (scaled_of (suc (suc n)) raw)

unfoldable pub spline_sample_of : List Float → Float → Point
unfolding sample_by
spline_sample_of points raw = sample_by (count_of points) points raw

-- ---- `tangent_raw`: the direction between two samples a thousandth to each side, or of the only leg
unfoldable pub tangent_by : ℕ → List Float → Float → Point
unfolding spline_sample_of
tangent_by zero points raw = origin_f
tangent_by (suc zero) points raw = origin_f
tangent_by (suc (suc zero)) points raw = normalize_of (sub_of (point_at points 1) (point_at points 0))
tangent_by (suc (suc (suc n))) points raw = normalize_of (sub_of (spline_sample_of points (later_of raw)) (spline_sample_of points (earlier_of raw)))

unfoldable pub spline_direction_of : List Float → Float → Point
unfolding tangent_by
spline_direction_of points raw = tangent_by (count_of points) points raw
