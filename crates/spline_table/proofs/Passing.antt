-- The running lengths of samples entry by entry, and what both passes keep: the sample made last, and the running length at it. Assumes nothing.
use mathlib.Core.Path.{◌≡◌, sym, ap, ◌∙◌, subst}
use Prim.Native.Nat.{ℕ, suc, ◌+◌, ◌<◌, zero-le}
use native.Mathlib.Numerals.{add-one}
use native.Mathlib.Omega.{arith}
use lib.Ieee.{Float, binary32, add}
use Rattle.floats.specs.Floats.{zero_f}
use Rattle.math.specs.declared.points.Point.{Point}
use Rattle.math.specs.Math.{distance_of}
use Rattle.table.specs.Lookup.{at}
use Rattle.table.proofs.Sums.{running-first, running-next}
use Rattle.table_samples.specs.Samples.{sample_at, steps_of, lengths_of}
use Rattle.table_samples.proofs.Steps.{steps-count, step_is}
use Rattle.spline_table.specs.Rows.{walk_of, Walking}

module _ (formula : Float → Point) (n : ℕ) where
  pub lengths-first : at (lengths_of formula n) 0 ≡ zero_f
  unfolding lengths_of
  lengths-first = running-first (steps_of formula n)

  pub lengths-next : (k : ℕ) → k < n → at (lengths_of formula n) (suc k) ≡ add binary32 (at (lengths_of formula n) k) (distance_of (sample_at formula n k) (sample_at formula n (suc k)))
  unfolding lengths_of
  lengths-next k h =
      running-next (steps_of formula n) k (subst (λ (m : ℕ). k < m) (sym (steps-count formula n)) h)
      ∙ ap (add binary32 (at (lengths_of formula n) k)) (step_is formula n k h)

module _ {formula : Float → Point} {n : ℕ} where
  pub walking_start : (previous : Point) → previous ≡ sample_at formula n 0 → Walking formula n (walk_of previous zero_f) 0
  walking_start previous e = record { upto = zero-le; here = e; sum = sym (lengths-first formula n) }

  -- the next sample is taken, and the distance to it added
  pub walking-more : {previous : Point} {total : Float} {k : ℕ} → Walking formula n (walk_of previous total) k → k < n
      → (current : Point) (step : Float) → current ≡ sample_at formula n (k + 1) → step ≡ distance_of previous current
      → Walking formula n (walk_of current (add binary32 total step)) (k + 1)
  walking-more {previous} {total} {k} w l current step e d =
      let there : current ≡ sample_at formula n (suc k) = e ∙ ap (sample_at formula n) (add-one k) in
      let sum : add binary32 total step ≡ at (lengths_of formula n) (suc k) = ended w l there d in
      record { upto = omega arith; here = e; sum = sum ∙ ap (at (lengths_of formula n)) (sym (add-one k)) }
    where
      ended : Walking formula n (walk_of previous total) k → k < n → current ≡ sample_at formula n (suc k) → step ≡ distance_of previous current → add binary32 total step ≡ at (lengths_of formula n) (suc k)
      ended w l there d = let s = w.sum in let h = w.here in cc (lengths-next formula n k l)
