-- The sample and the direction, by how many points there are. Assumes nothing.
use Rattle.std.proofs.Common.{◌≡◌, ℕ, zero, suc, ◌-◌, ◌<◌, ◌≤◌, List, refl, ap, arith}
use lib.Ieee.{Float}
use Rattle.floats.specs.Floats.{clamp01_of}
use Rattle.math.specs.Math.{origin_f, sub_of, normalize_of, lerp_point_of}
use Rattle.table.specs.Lookup.{earlier_of, later_of}
use Rattle.polyline.specs.Points.{count_of, point_at}
use Rattle.spline.specs.Formula.{scaled_of, curve_of, sample_by, spline_sample_of, tangent_by, spline_direction_of}

less_one : (n : ℕ) → suc (suc (suc n)) - 1 ≡ suc (suc n)
less_one n = omega arith

module _ (points : List Float) (raw : Float) where
  -- ---- the sample
  pub sample-none : count_of points ≡ 0 → spline_sample_of points raw ≡ origin_f
  unfolding spline_sample_of
  sample-none e = ap (λ (n : ℕ). sample_by n points raw) e

  pub sample-one : count_of points ≡ 1 → spline_sample_of points raw ≡ point_at points 0
  unfolding spline_sample_of
  sample-one e = ap (λ (n : ℕ). sample_by n points raw) e

  pub sample-two : count_of points ≡ 2 → spline_sample_of points raw ≡ lerp_point_of (point_at points 0) (point_at points 1) (clamp01_of raw)
  unfolding spline_sample_of
  sample-two e = ap (λ (n : ℕ). sample_by n points raw) e

  sample-by : (n : ℕ) → 3 ≤ n → sample_by n points raw ≡ curve_of points (n - 1) (scaled_of (n - 1) raw)
  unfolding sample_by
  sample-by zero h = absurd (omega arith)
  sample-by (suc zero) h = absurd (omega arith)
  sample-by (suc (suc zero)) h = absurd (omega arith)
  sample-by (suc (suc (suc n))) h = rw (less_one n)

  pub sample-more : 3 ≤ count_of points → spline_sample_of points raw ≡ curve_of points (count_of points - 1) (scaled_of (count_of points - 1) raw)
  unfolding spline_sample_of
  sample-more h = sample-by (count_of points) h

  -- ---- the direction
  direction-by : (n : ℕ) → n < 2 → tangent_by n points raw ≡ origin_f
  unfolding tangent_by
  direction-by zero h = refl
  direction-by (suc zero) h = refl
  direction-by (suc (suc n)) h = absurd (omega arith)

  pub direction-few : count_of points < 2 → spline_direction_of points raw ≡ origin_f
  unfolding spline_direction_of
  direction-few h = direction-by (count_of points) h

  pub direction-two : count_of points ≡ 2 → spline_direction_of points raw ≡ normalize_of (sub_of (point_at points 1) (point_at points 0))
  unfolding spline_direction_of
  direction-two e = ap (λ (n : ℕ). tangent_by n points raw) e

  direction-of : (n : ℕ) → 3 ≤ n → tangent_by n points raw ≡ normalize_of (sub_of (spline_sample_of points (later_of raw)) (spline_sample_of points (earlier_of raw)))
  unfolding tangent_by
  direction-of zero h = absurd (omega arith)
  direction-of (suc zero) h = absurd (omega arith)
  direction-of (suc (suc zero)) h = absurd (omega arith)
  direction-of (suc (suc (suc n))) h = refl

  pub direction-more : 3 ≤ count_of points → spline_direction_of points raw ≡ normalize_of (sub_of (spline_sample_of points (later_of raw)) (spline_sample_of points (earlier_of raw)))
  unfolding spline_direction_of
  direction-more h = direction-of (count_of points) h
