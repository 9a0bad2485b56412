-- The length of a vector (document 02, L9): "square and add in f64, take the f64 root correctly rounded, then round to f32", by the roundings' own words. Nothing here rounds but the sum: values are
-- compared. Definitions only.
use Rattle.std.specs.Prelude.{ℕ, zero, ◌≡◌, false, T, ℤ, Float}
use Rattle.std.specs.Float.{nan, inf, fin, binary64}
use Rattle.std.specs.Float.Ieee.Positive.{num, den, positive}
use Rattle.floats.specs.Floats.{zero_f}
use Rattle.floats.specs.Kinds.{real, upward}
use Rattle.root.specs.Root.{NearestRoot}
use Rattle.decimal_nearest.specs.Nearest.{NearestTo}
use Rattle.lengths.specs.Length.{square_sum_of}

-- r is the length of (x, y)
pub record LengthKept (x y r : Float) : Type 0 where
  -- the sum of squares of two numbers is a zero, above 0 or infinite, and never below 0
  pub upward-sum : T (real x) → T (real y) → T (upward (square_sum_of x y))
  -- above 0: "the f64 root correctly rounded", of the sum; "then round to f32": the nearest to that root, ties to even
  pub root : Float
  pub root-near : T (positive (square_sum_of x y)) → NearestRoot binary64 (square_sum_of x y) root
  pub near : T (positive (square_sum_of x y)) → NearestTo false (num root) (den root) r
  -- the rest
  pub none : (e : ℤ) → square_sum_of x y ≡ fin false zero e → r ≡ zero_f
  pub endless : square_sum_of x y ≡ inf false → r ≡ inf false
  pub no-x : x ≡ nan → r ≡ nan
  pub no-y : y ≡ nan → r ≡ nan
