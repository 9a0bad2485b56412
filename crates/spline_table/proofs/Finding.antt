-- The first pass: each entry up to k is finite. It ends at the first one that is not, or past the last. Assumes nothing.
use mathlib.Core.Path.{◌≡◌, sym, ap, ◌∙◌}
use mathlib.Core.Bool.{true, false}
use Prim.Native.Nat.{ℕ, suc, ◌+◌, ◌≤◌, ◌<◌}
use native.Mathlib.Omega.{arith}
use lib.ListN.{length}
use lib.Ieee.{Float}
use lib.Ieee.Scale.{finite}
use Rattle.floats.specs.Floats.{zero_f}
use Rattle.math.specs.declared.points.Point.{Point}
use Rattle.table_samples.specs.Samples.{lengths_of}
use Rattle.table_samples.proofs.Made.{made-count}
use Rattle.polyline.specs.Lengths.{first_not_finite}
use Rattle.polyline.proofs.FirstNotFinite.{finite-start, finite-more, finite-stop, finite-upto}
use Rattle.spline_table.specs.Rows.{walk_of, Walking}
use Rattle.spline_table.proofs.Passing.{lengths-first}

pub record Finding (formula : Float → Point) (n : ℕ) (previous : Point) (total : Float) (k : ℕ) : Type 0 where
  pub walking : Walking formula n (walk_of previous total) k
  pub fine : suc k ≤ first_not_finite (lengths_of formula n)

within : (formula : Float → Point) (n k : ℕ) → k ≤ n → k < length (lengths_of formula n)
within formula n k h = omega (arith, made-count formula n)

module _ {formula : Float → Point} {n : ℕ} where
  pub finding-start : {previous : Point} → Walking formula n (walk_of previous zero_f) 0 → Finding formula n previous zero_f 0
  finding-start w = record { walking = w; fine = finite-start (lengths_of formula n) (within formula n 0 w.upto) (lengths-first formula n) }

  module _ {previous current : Point} {total sum : Float} {k : ℕ} (f : Finding formula n previous total k) (w : Walking formula n (walk_of current sum) (k + 1)) where
    still : k + 1 ≤ first_not_finite (lengths_of formula n)
    still = let g = f.fine in omega arith

    pub finding-more : finite sum ≡ true → Finding formula n current sum (k + 1)
    finding-more e = record { walking = w; fine = finite-more (lengths_of formula n) (k + 1) still (within formula n (k + 1) w.upto) (ap finite (sym w.sum) ∙ e) }

    pub finding-ends : finite sum ≡ false → k + 1 ≡ first_not_finite (lengths_of formula n)
    finding-ends e = sym (finite-stop (lengths_of formula n) (k + 1) still (within formula n (k + 1) w.upto) (ap finite (sym w.sum) ∙ e))

  pub finding-none : {previous : Point} {total : Float} {k : ℕ} → Finding formula n previous total k → n ≤ k → n + 1 ≡ first_not_finite (lengths_of formula n)
  finding-none f h =
      let u = f.walking.upto in
      let g = f.fine in
      omega (arith, made-count formula n, finite-upto (lengths_of formula n))
