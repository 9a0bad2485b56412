-- Which span a raw parameter lies in: the clamped parameter times the number of spans is from 0 to that number, and its whole part, cut at the last span, is a span. Assumes nothing.
use Rattle.std.proofs.Common.{◌≡◌, ℕ, ◌-◌, ◌*◌, ◌<◌, ◌≤◌, true, false, T, pos, sym, ap, le_trans, le_of_eq, mul-le-mul_right, mul_assoc, mul_left_comm, arith, lit≤}
use native.Mathlib.Nat.{min-le_right}
use lib.Ieee.{Float, fin, binary32, mul, of_bits, of_int, to_unsigned, lt}
use lib.Ieee.Positive.{num, den}
use Rattle.floats.specs.Floats.{zero_f, clamp01_of}
use Rattle.floats.proofs.Order.{lt-le-trans, le_lt_trans, le-le-trans}
use Rattle.floats.proofs.Rounded.{Rounds, mul-rounds}
use Rattle.floats.proofs.Held.{Held, held-above}
use Rattle.floats.proofs.Bounds.{zero-under}
use Rattle.floats.proofs.Whole.{whole-held, whole-mono}
use Rattle.floats.proofs.Constants.{zero_held, zero-num}
use Rattle.floats.proofs.Clamping.{clamp01-nonneg, clamp01-at-most, at_most_one}
use Rattle.spline.specs.Formula.{scaled_of, index_of, InSpans}

-- ---- `scaled` is from 0 to the number of spans
module _ (segments : ℕ) (raw : Float) (few : segments ≤ 4095) where
  count_held : Held binary32 (of_int binary32 (pos segments))
  count_held = whole-held binary32 segments (le_trans few (lit≤ tt))

  scaled-rounds : Rounds binary32 (scaled_of segments raw) (num (clamp01_of raw) * num (of_int binary32 (pos segments))) (den (clamp01_of raw) * den (of_int binary32 (pos segments)))
  unfolding scaled_of
  scaled-rounds = mul-rounds binary32 (clamp01_of raw) (of_int binary32 (pos segments)) (clamp01-nonneg raw) count_held.nn

  part : (t d x y : ℕ) → t ≤ d → t * x * y ≤ x * (d * y)
  part t d x y h =
      let a : t * x * y ≡ t * (x * y) = mul_assoc t x y in
      let b : x * (d * y) ≡ d * (x * y) = mul_left_comm x d y in
      le_trans (le_of_eq a) (le_trans (mul-le-mul_right (x * y) h) (le_of_eq (sym b)))

  pub in-spans : 0 < segments → InSpans segments (scaled_of segments raw)
  in-spans some = record {
    some = some;
    few = few;
    from = zero-under binary32 zero_f (scaled_of segments raw) _ _ zero_held zero-num scaled-rounds;
    upto = held-above binary32 (of_int binary32 (pos segments)) (scaled_of segments raw) _ _ count_held scaled-rounds
        (part (num (clamp01_of raw)) (den (clamp01_of raw)) (num (of_int binary32 (pos segments))) (den (of_int binary32 (pos segments))) (at_most_one (clamp01_of raw) (clamp01-nonneg raw) (clamp01-at-most raw)));
  }

-- the code's product, of a clamped parameter
pub scaled-is : (segments : ℕ) (raw clamped : Float) → clamped ≡ clamp01_of raw → mul binary32 clamped (of_int binary32 (pos segments)) ≡ scaled_of segments raw
unfolding scaled_of
scaled-is segments raw clamped e = ap (λ (t : Float). mul binary32 t (of_int binary32 (pos segments))) e

-- ---- what the cast asks: more than -1, and less than 2 ^ 64
minus-one-below : T (lt (fin true 1 (pos 0)) zero_f)
unfolding lt zero_f of_bits
minus-one-below = tt

most-below : T (lt (of_int binary32 (pos 4095)) (fin false 1 (pos 64)))
unfolding lt of_int
most-below = tt

module _ (segments : ℕ) (scaled : Float) (i : InSpans segments scaled) where
  pub cast-from : T (lt (fin true 1 (pos 0)) scaled)
  cast-from = lt-le-trans (fin true 1 (pos 0)) zero_f scaled minus-one-below i.from

  pub cast-upto : T (lt scaled (fin false 1 (pos 64)))
  cast-upto =
      le_lt_trans scaled (of_int binary32 (pos 4095)) (fin false 1 (pos 64))
      (le-le-trans scaled (of_int binary32 (pos segments)) (of_int binary32 (pos 4095)) i.upto (whole-mono binary32 segments 4095 i.few)) most-below

-- ---- the index

pub index-lt : (segments : ℕ) (scaled : Float) → 0 < segments → index_of segments scaled < segments
unfolding index_of
index-lt segments scaled some = omega (arith, min-le_right (to_unsigned 64 scaled) (segments - 1))
