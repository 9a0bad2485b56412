-- The bounds of the shape between two shapes (source document 004, `bounds_at`): 9, 13, each the first shape, then the second. Path units. Definitions only.
use Rattle.std.specs.Prelude.{ℕ, zero, suc, List, Float, Result, Ok, Err}
use Rattle.floats.specs.Floats.{zero_f, min_of, max_of}
use Rattle.answers.specs.declared.refusals.Refusal.{Refusal}
use Rattle.math.specs.declared.points.Point.{Point}
use Rattle.polyline.specs.Judging.{judge_two_of}
use Rattle.morph.specs.Shapes.{progress_of, shared_of, between_at}
use Rattle.morph.specs.declared.bounding.Bounds.{Bounds}

abbrev pub point_bounds : Point → Bounds
point_bounds p = record { min_x = p.x; min_y = p.y; max_x = p.x; max_y = p.y }

-- "Minimum and maximum of equal zeros keep the first."
abbrev pub widened : Bounds → Point → Bounds
widened b p = record {
  min_x = min_of b.min_x p.x;
  min_y = min_of b.min_y p.y;
  max_x = max_of b.max_x p.x;
  max_y = max_of b.max_y p.y;
}

-- four zeros
unfoldable pub no_bounds : Bounds
no_bounds = record { min_x = zero_f; min_y = zero_f; max_x = zero_f; max_y = zero_f }

-- of the first k points: "one shape empty: .. the bounds are four zeros", one point's, and each further point in its turn
unfoldable pub bounds_of : List Float → List Float → Float → ℕ → Bounds
bounds_of from to along zero = no_bounds
bounds_of from to along (suc zero) = point_bounds (between_at from to along 0)
bounds_of from to along (suc (suc k)) = widened (bounds_of from to along (suc k)) (between_at from to along (suc k))

abbrev pub bounded_by : Result (Unit {0}) Refusal → Bounds → Result Bounds Refusal
bounded_by (Ok fine) bounds = Ok bounds
bounded_by (Err reason) bounds = Err reason

unfoldable pub bounded_of : List Float → List Float → Float → Result Bounds Refusal
bounded_of from to t = bounded_by (judge_two_of from to) (bounds_of from to (progress_of t) (shared_of from to))
