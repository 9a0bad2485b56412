-- The samples of a spline through points within 2^40 are within 2^48, since what is left of the parameter in its span is at most 1; so that no running length is infinite or a NaN. Assumes nothing.
use mathlib.Core.Path.{◌≡◌, refl, sym, subst}
use mathlib.Core.Logic.{inl, inr}
use mathlib.Core.Bool.{true, false, not}
use mathlib.Core.List.{List}
use Prim.Native.Nat.{ℕ, zero, suc, ◌+◌, ◌-◌, ◌*◌, ◌/◌, ◌^◌, ◌≤◌, ◌<◌, zero-le}
use native.Mathlib.Omega.{arith}
use borrow.Author.Tests.{lt-ltb, le-ltb, ne_eqb}
use lib.Dec.{T, ltb, ltb→lt, nltb→le}
use lib.IntN.{pos}
use lib.ListN.{length}
use lib.Pow.{pow-add, pow_mono}
use lib.Ieee.{Float, binary32, of_bits, add, sub, mul, neg, of_int}
use Rattle.floats.specs.Floats.{zero_f, clamp01_of}
use Rattle.floats.proofs.Tests.{decide}
use Rattle.math.specs.declared.points.Point.{Point}
use Rattle.math.specs.Math.{origin_f, lerp_point_of}
use Rattle.table.specs.Lookup.{at}
use Rattle.floats.proofs.Within.{Within, within-le, Holds, neg-within, mul-within}
use Rattle.path_bounds.specs.Calm.{is_near}
use Rattle.path_bounds.proofs.Tested.{Near, near_within, clamped-within}
use Rattle.path_bounds.proofs.Roots.{holds-power, add-power, sub-power}
use Rattle.path_bounds.proofs.Lengths.{lerp-near}
use Rattle.polyline.specs.Points.{count_of, point_at}
use Rattle.spline.specs.Formula.{half_f, two_f, three_f, four_f, five_f, blend_of, span_of, scaled_of, index_of, before_span, after_span, along_of, curve_of, spline_sample_of}
use Rattle.spline.proofs.Spans.{in-spans, index-lt}
use Rattle.spline.proofs.Counts.{sample-none, sample-one, sample-two, sample-more}
use Rattle.spline_table.specs.Near.{all_near}
use Rattle.spline_table.proofs.Near.{every-at}
use Rattle.spline_table.proofs.Left.{left-within}

-- ---- numbers within a power of 2
wider : (j k : ℕ) (x : Float) → j ≤ k → Within (2 ^ j) x → Within (2 ^ k) x
wider j k x h w = within-le x (pow_mono h) w

-- both within, the sum one power above the larger
plus : (i j k : ℕ) (x y : Float) → i ≤ k → j ≤ k → k ≤ 100 → Within (2 ^ i) x → Within (2 ^ j) y → Within (2 ^ (k + 1)) (add binary32 x y)
plus i j k x y p q h v w = add-power k x y (omega arith) (wider i k x p v) (wider j k y q w)

less : (i j k : ℕ) (x y : Float) → i ≤ k → j ≤ k → k ≤ 100 → Within (2 ^ i) x → Within (2 ^ j) y → Within (2 ^ (k + 1)) (sub binary32 x y)
less i j k x y p q h v w = sub-power k x y (omega arith) (wider i k x p v) (wider j k y q w)

times : (i j : ℕ) (x y : Float) → i + j ≤ 100 → Within (2 ^ i) x → Within (2 ^ j) y → Within (2 ^ (i + j)) (mul binary32 x y)
times i j x y h v w =
    subst (λ (n : ℕ). Within n (mul binary32 x y)) (sym (pow-add 2 i j))
    (mul-within binary32 (2 ^ i) (2 ^ j) x y (subst (Holds binary32) (pow-add 2 i j) (holds-power (i + j) (omega arith))) v w)

-- ---- the constants
half-within : Within (2 ^ 0) half_f
unfolding half_f of_bits
half-within = record { whole = tt; bound = omega arith }

two-within : Within (2 ^ 1) two_f
unfolding two_f of_bits
two-within = record { whole = tt; bound = omega arith }

three-within : Within (2 ^ 2) three_f
unfolding three_f of_bits
three-within = record { whole = tt; bound = omega arith }

four-within : Within (2 ^ 2) four_f
unfolding four_f of_bits
four-within = record { whole = tt; bound = omega arith }

five-within : Within (2 ^ 3) five_f
unfolding five_f of_bits
five-within = record { whole = tt; bound = omega arith }

-- ---- one coordinate
module _ (p0 p1 p2 p3 t : Float) (a : Within (2 ^ 40) p0) (b : Within (2 ^ 40) p1) (c : Within (2 ^ 40) p2) (d : Within (2 ^ 40) p3) (left : Within 1 t) where
  square : Within (2 ^ 0) (mul binary32 t t)
  square = times 0 0 t t (omega arith) left left

  cube : Within (2 ^ 0) (mul binary32 (mul binary32 t t) t)
  cube = times 0 0 (mul binary32 t t) t (omega arith) square left

  first : Within (2 ^ 41) (mul binary32 (add binary32 (neg p0) p2) t)
  first = times 41 0 _ t (omega arith) (plus 40 40 40 (neg p0) p2 (omega arith) (omega arith) (omega arith) (neg-within (2 ^ 40) p0 a) c) left

  second : Within (2 ^ 46) (mul binary32 (sub binary32 (add binary32 (sub binary32 (mul binary32 two_f p0) (mul binary32 five_f p1)) (mul binary32 four_f p2)) p3) (mul binary32 t t))
  second =
      let x = less 41 43 43 (mul binary32 two_f p0) (mul binary32 five_f p1) (omega arith) (omega arith) (omega arith) (times 1 40 two_f p0 (omega arith) two-within a) (times 3 40 five_f p1 (omega arith) five-within b) in
      let y = plus 44 42 44 _ (mul binary32 four_f p2) (omega arith) (omega arith) (omega arith) x (times 2 40 four_f p2 (omega arith) four-within c) in
      times 46 0 _ _ (omega arith) (less 45 40 45 _ p3 (omega arith) (omega arith) (omega arith) y d) square

  third : Within (2 ^ 45) (mul binary32 (add binary32 (sub binary32 (add binary32 (neg p0) (mul binary32 three_f p1)) (mul binary32 three_f p2)) p3) (mul binary32 (mul binary32 t t) t))
  third =
      let x = plus 40 42 42 (neg p0) (mul binary32 three_f p1) (omega arith) (omega arith) (omega arith) (neg-within (2 ^ 40) p0 a) (times 2 40 three_f p1 (omega arith) three-within b) in
      let y = less 43 42 43 _ (mul binary32 three_f p2) (omega arith) (omega arith) (omega arith) x (times 2 40 three_f p2 (omega arith) three-within c) in
      times 45 0 _ _ (omega arith) (plus 44 40 44 _ p3 (omega arith) (omega arith) (omega arith) y d) cube

  blend-within : Within (2 ^ 48) (blend_of p0 p1 p2 p3 t (mul binary32 t t) (mul binary32 (mul binary32 t t) t))
  unfolding blend_of
  blend-within =
      let x = plus 41 41 45 (mul binary32 two_f p1) _ (omega arith) (omega arith) (omega arith) (times 1 40 two_f p1 (omega arith) two-within b) first in
      let y = plus 46 46 46 _ _ (omega arith) (omega arith) (omega arith) x second in
      times 0 48 half_f _ (omega arith) half-within (plus 47 45 47 _ _ (omega arith) (omega arith) (omega arith) y third)

-- ---- a point of the list, and a sample between four
nearer : (j k : ℕ) (p : Point) → j ≤ k → Near j p → Near k p
nearer j k p h n = record { across = wider j k p.x h n.across; along = wider j k p.y h n.along }

span-near : (p0 p1 p2 p3 : Point) (t : Float) → Near 40 p0 → Near 40 p1 → Near 40 p2 → Near 40 p3 → Within 1 t → Near 48 (span_of p0 p1 p2 p3 t)
unfolding span_of
span-near p0 p1 p2 p3 t a b c d left =
    record {
      across = blend-within p0.x p1.x p2.x p3.x t a.across b.across c.across d.across left;
      along = blend-within p0.y p1.y p2.y p3.y t a.along b.along c.along d.along left;
    }

module _ (points : List Float) (near : T (all_near points)) where
  point-near : (i : ℕ) → i < count_of points → Near 40 (point_at points i)
  unfolding point_at
  point-near i inside =
      record {
        across = near_within (at points (2 * i)) (every-at is_near points near (2 * i) (lower (length points) i inside));
        along = near_within (at points (2 * i + 1)) (every-at is_near points near (2 * i + 1) (upper (length points) i inside));
      }
    where
      lower : (n i : ℕ) → i < n / 2 → 2 * i < n
      lower n i h = omega arith

      upper : (n i : ℕ) → i < n / 2 → 2 * i + 1 < n
      upper n i h = omega arith

  before-near : (index : ℕ) → index < count_of points → Near 40 (before_span points index)
  before-near zero inside = point-near 0 inside
  before-near (suc index) inside = rw (ne_eqb (suc index) 0 (λ e. omega arith)) (point-near (suc index - 1) (omega arith))

  after-near : (index : ℕ) → index + 1 < count_of points → Near 40 (after_span points index)
  after-near index inside = elim (decide (ltb (index + 2) (count_of points))) [
    | inl h ↦ rw (known h) (point-near (index + 2) (ltb→lt (index + 2) (count_of points) h))
    | inr h ↦ rw (unknown h) (point-near (count_of points - 1) (omega arith))
  ]
    where
      known : T (ltb (index + 2) (count_of points)) → ltb (index + 2) (count_of points) ≡ true
      known h = lt-ltb (index + 2) (count_of points) (ltb→lt (index + 2) (count_of points) h)

      unknown : T (not (ltb (index + 2) (count_of points))) → ltb (index + 2) (count_of points) ≡ false
      unknown h = le-ltb (index + 2) (count_of points) (nltb→le (index + 2) (count_of points) h)

  module _ (few : count_of points ≤ 4096) (raw : Float) where
    curve-near : 3 ≤ count_of points → Near 48 (curve_of points (count_of points - 1) (scaled_of (count_of points - 1) raw))
    unfolding curve_of along_of
    curve-near h =
        let n = count_of points in
        let scaled = scaled_of (n - 1) raw in
        let inside = index-lt (n - 1) scaled (omega arith) in
        let index = index_of (n - 1) scaled in
        span-near (before_span points index) (point_at points index) (point_at points (index + 1)) (after_span points index) (sub binary32 scaled (of_int binary32 (pos index)))
        (before-near index (omega arith)) (point-near index (omega arith)) (point-near (index + 1) (omega arith)) (after-near index (omega arith))
        (left-within (n - 1) scaled (in-spans (n - 1) raw (omega arith) (omega arith)))

    origin-near : Near 48 origin_f
    origin-near = unfold origin_f zero_f of_bits in record { across = record { whole = tt; bound = zero-le }; along = record { whole = tt; bound = zero-le } }

    two-near : count_of points ≡ 2 → Near 48 (lerp_point_of (point_at points 0) (point_at points 1) (clamp01_of raw))
    two-near e = nearer 42 48 _ (omega arith) (lerp-near 40 (point_at points 0) (point_at points 1) (clamp01_of raw) (omega arith) (point-near 0 (omega arith)) (point-near 1 (omega arith)) (clamped-within raw))

    by_count : (n : ℕ) → count_of points ≡ n → Near 48 (spline_sample_of points raw)
    by_count zero e = subst (Near 48) (sym (sample-none points raw e)) origin-near
    by_count (suc zero) e = subst (Near 48) (sym (sample-one points raw e)) (nearer 40 48 _ (omega arith) (point-near 0 (omega arith)))
    by_count (suc (suc zero)) e = subst (Near 48) (sym (sample-two points raw e)) (two-near e)
    by_count (suc (suc (suc n))) e = subst (Near 48) (sym (sample-more points raw (omega arith))) (curve-near (omega arith))

    pub sample-near : Near 48 (spline_sample_of points raw)
    sample-near = by_count (count_of points) refl
