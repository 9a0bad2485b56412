-- Samples, tables and running lengths: interpolation by a clamped parameter stays within four times the bound, each step of a table within 2^64, and a sum of so many
-- parts within so many times the bound of one. Assumes nothing.
use mathlib.Core.Path.{◌≡◌, sym, ap, ◌∙◌, subst}
use Prim.Native.Nat.{ℕ, zero, suc, zero-le, ◌+◌, ◌*◌, ◌≤◌, ◌<◌, ◌^◌}
use native.Mathlib.Nat.{mul-one, one-mul, add-mul, add-zero, zero-add, add-suc, suc-add}
use native.Mathlib.Omega.{arith}
use native.Mathlib.Numerals.{add-one}
use lib.ListN.{length}
use lib.Pow.{pow_mono}
use lib.Ieee.{Float, binary32, of_bits, add, sub, mul}
use Rattle.floats.specs.Floats.{zero_f, clamp01_of}
use Rattle.math.specs.declared.points.Point.{Point}
use Rattle.math.specs.Math.{lerp_of, lerp_point_of, distance_of}
use Rattle.table.specs.Lookup.{at, mark_of}
use Rattle.table.specs.Sums.{sums_from, running_sums, sum_of}
use Rattle.table_samples.specs.Samples.{sample_at, steps_from, steps_of, total_of}
use Rattle.bezier.specs.Quads.{quad_sample_of}
use Rattle.bezier.specs.Cubics.{cubic_sample_of}
use Rattle.floats.proofs.Within.{Within, within-le, Holds, holds-scaled, add-within, mul-within}
use Rattle.path_bounds.proofs.Tested.{Near, clamped-within}
use Rattle.path_bounds.proofs.Roots.{holds-power, add-power, sub-power, distance-within}

-- ---- interpolation
lerp-within : (k : ℕ) (a b t : Float) → k ≤ 100 → Within (2 ^ k) a → Within (2 ^ k) b → Within 1 t → Within (2 ^ (k + 2)) (lerp_of a b t)
unfolding lerp_of
lerp-within k a b t h p q r =
    let d = sub-power k b a (omega arith) q p in
    let m =
    subst (λ n. Within n (mul binary32 (sub binary32 b a) t)) (mul-one (2 ^ (k + 1)))
    (mul-within binary32 (2 ^ (k + 1)) 1 (sub binary32 b a) t (subst (Holds binary32) (sym (mul-one (2 ^ (k + 1)))) (holds-power (k + 1) (omega arith))) d r) in
    let e : (k + 1) + 1 ≡ k + 2 = omega arith in
    let wider : 2 ^ k ≤ 2 ^ (k + 1) = pow_mono (omega arith) in
    subst (λ n. Within (2 ^ n) (add binary32 a (mul binary32 (sub binary32 b a) t))) e
    (add-power (k + 1) a (mul binary32 (sub binary32 b a) t) (omega arith) (within-le a wider p) m)

pub lerp-near : (k : ℕ) (a b : Point) (t : Float) → k ≤ 100 → Near k a → Near k b → Within 1 t → Near (k + 2) (lerp_point_of a b t)
unfolding lerp_point_of
lerp-near k a b t h p q r =
    record {
      across = lerp-within k a.x b.x t h p.across q.across r;
      along = lerp-within k a.y b.y t h p.along q.along r;
    }

-- ---- the samples of curves between points within 2^40
pub quad-near : (start control end : Point) → Near 40 start → Near 40 control → Near 40 end → (raw : Float) → Near 44 (quad_sample_of start control end raw)
unfolding quad_sample_of
quad-near start control end p q r raw =
    let t = clamp01_of raw in
    let w = clamped-within raw in
    lerp-near 42 (lerp_point_of start control t) (lerp_point_of control end t) t (omega arith) (lerp-near 40 start control t (omega arith) p q w) (lerp-near 40 control end t (omega arith) q r w) w

pub cubic-near :
    (start control1 control2 end : Point) → Near 40 start → Near 40 control1 → Near 40 control2 → Near 40 end → (raw : Float) → Near 46 (cubic_sample_of start control1 control2 end raw)
unfolding cubic_sample_of
cubic-near start control1 control2 end p q r s raw =
    let t = clamp01_of raw in
    let w = clamped-within raw in
    let a = lerp_point_of start control1 t in
    let b = lerp_point_of control1 control2 t in
    let c = lerp_point_of control2 end t in
    let u = lerp-near 40 start control1 t (omega arith) p q w in
    let v = lerp-near 40 control1 control2 t (omega arith) q r w in
    let x = lerp-near 40 control2 end t (omega arith) r s w in
    lerp-near 44 (lerp_point_of a b t) (lerp_point_of b c t) t (omega arith) (lerp-near 42 a b t (omega arith) u v w) (lerp-near 42 b c t (omega arith) v x w) w

-- ---- sums: one part more
pub one_more : (q j : ℕ) (x y : Float) → suc q < 2 ^ 24 → j ≤ 104 → Within (q * 2 ^ j) x → Within (2 ^ j) y → Within (suc q * 2 ^ j) (add binary32 x y)
one_more q j x y few small p r =
    subst (λ n. Within n (add binary32 x y)) (sym grown) (add-within binary32 (q * 2 ^ j) (2 ^ j) x y (subst (Holds binary32) grown (holds-scaled binary32 24 (suc q) j few (omega arith) (omega arith))) p r)
  where
    grown : suc q * 2 ^ j ≡ q * 2 ^ j + 2 ^ j
    grown = ap (λ n. n * 2 ^ j) (sym (add-one q)) ∙ add-mul q 1 (2 ^ j) ∙ ap (λ n. q * 2 ^ j + n) (one-mul (2 ^ j))

pub zero-within : (j : ℕ) → Within (0 * 2 ^ j) zero_f
unfolding zero_f of_bits
zero-within j = record { whole = tt; bound = zero-le }

-- ---- a table over samples within 2^60
module _ (formula : Float → Point) (n k : ℕ) (small : k ≤ 60) (near : (raw : Float) → Near k (formula raw)) where
  sums-within :
      (more i q : ℕ) (start : Float) → q + more < 2 ^ 24 → Within (q * 2 ^ 64) start
      → Within ((q + more) * 2 ^ 64) (at (sums_from start (steps_from formula n more i)) (length (steps_from formula n more i)))
  unfolding steps_from sums_from sample_at
  sums-within zero i q start few w = subst (λ m. Within (m * 2 ^ 64) start) (sym (add-zero q)) w
  sums-within (suc more) i q start few w =
      let a = formula (mark_of n i) in
      let b = formula (mark_of n (suc i)) in
      subst (λ m. Within (m * 2 ^ 64) (at (sums_from (add binary32 start (distance_of a b)) (steps_from formula n more (suc i))) (length (steps_from formula n more (suc i))))) (suc-add q more ∙ sym (add-suc q more))
      (sums-within more (suc i) (suc q) (add binary32 start (distance_of a b)) (omega arith)
      (one_more q 64 start (distance_of a b) (omega arith) (omega arith) w (distance-within a b k small (near (mark_of n i)) (near (mark_of n (suc i))))))

  pub total-within : n < 2 ^ 24 → Within (n * 2 ^ 64) (total_of formula n)
  unfolding total_of sum_of running_sums steps_of
  total-within few = subst (λ m. Within (m * 2 ^ 64) (sum_of (steps_from formula n n 0))) (zero-add n) (sums-within n 0 0 zero_f (omega arith) (zero-within 64))
