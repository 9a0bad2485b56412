-- Steps by index, the lengths of the differences from each sample to the next, which are the steps, and the table of their sums. Assumes nothing.
use mathlib.Core.Path.{◌≡◌, refl, sym, ap, ◌∙◌}
use Prim.Native.Nat.{ℕ, zero, suc, ◌+◌, ◌<◌}
use native.Mathlib.Nat.{le_of_suc-le-suc, zero-add, add-zero, not-suc-le-zero}
use native.Mathlib.Omega.{arith}
use mathlib.Core.List.{List}
use lib.ListN.{length, get_or}
use lib.Seq.{ext_get_or}
use lib.Ieee.{Float, nan, binary32, sub}
use Rattle.lengths.specs.Length as lengths
use Rattle.math.specs.declared.points.Point.{Point}
use Rattle.math.specs.Math.{sub_of, length_of, distance_of}
use Rattle.table.specs.declared.tables.Table.{Table}
use Rattle.table.specs.Lookup.{at}
use Rattle.table.specs.Sums.{running_sums, sum_of}
use Rattle.table_samples.specs.Samples.{sample_at, steps_from, steps_of, lengths_of, total_of, table_of}

-- ---- steps by index
steps-length : (formula : Float → Point) (n k i : ℕ) → length (steps_from formula n k i) ≡ k
unfolding steps_from
steps-length formula n zero i = refl
steps-length formula n (suc k) i = ap suc (steps-length formula n k (suc i))

abbrev step_at : (Float → Point) → ℕ → ℕ → Float
step_at formula n i = distance_of (sample_at formula n i) (sample_at formula n (suc i))

step-at : (formula : Float → Point) (n k i j : ℕ) → j < k → at (steps_from formula n k i) j ≡ step_at formula n (i + j)
unfolding steps_from
step-at formula n zero i j h = absurd (not-suc-le-zero h)
step-at formula n (suc k) i zero h = ap (step_at formula n) (sym (add-zero i))
step-at formula n (suc k) i (suc j) h = step-at formula n k (suc i) j (le_of_suc-le-suc h) ∙ ap (step_at formula n) (let e : suc i + j ≡ i + suc j = omega arith in e)

pub steps-count : (formula : Float → Point) (n : ℕ) → length (steps_of formula n) ≡ n
unfolding steps_of
steps-count formula n = steps-length formula n n 0

pub step_is : (formula : Float → Point) (n j : ℕ) → j < n → at (steps_of formula n) j ≡ distance_of (sample_at formula n j) (sample_at formula n (suc j))
unfolding steps_of
step_is formula n j h = step-at formula n n 0 j h ∙ ap (step_at formula n) (zero-add j)

-- ---- the lengths of the differences of a formula's samples are its steps
module _ (formula : Float → Point) (x y steps : List Float) (n : ℕ) where
  pub steps-are : length steps ≡ n
      → ((k : ℕ) → k < n → get_or x k nan ≡ sub binary32 (sample_at formula n (suc k)).x (sample_at formula n k).x)
      → ((k : ℕ) → k < n → get_or y k nan ≡ sub binary32 (sample_at formula n (suc k)).y (sample_at formula n k).y)
      → ((k : ℕ) → k < n → get_or steps k nan ≡ lengths.length_of (get_or x k nan) (get_or y k nan))
      → steps ≡ steps_of formula n
  steps-are size hx hy hs = ext_get_or nan steps (steps_of formula n) (size ∙ sym (steps-count formula n)) each
    where
      distance-at : (k : ℕ) → k < n → lengths.length_of (get_or x k nan) (get_or y k nan) ≡ distance_of (sample_at formula n k) (sample_at formula n (suc k))
      distance-at k h = unfold distance_of length_of sub_of in (ap (λ (z : Float). lengths.length_of z (get_or y k nan)) (hx k h) ∙ ap (lengths.length_of (sub binary32 (sample_at formula n (suc k)).x (sample_at formula n k).x)) (hy k h))

      each : (i : ℕ) → i < length steps → get_or steps i nan ≡ get_or (steps_of formula n) i nan
      each i l = let h : i < n = omega (arith, size) in hs i h ∙ distance-at i h ∙ sym (step_is formula n i h)

-- ---- the sums of the steps are the table
pub table_is : (t : Table) (formula : Float → Point) (steps : List Float) → steps ≡ steps_of formula 31 → t.entries ≡ running_sums steps → t.total ≡ sum_of steps → t ≡ table_of formula
unfolding table_of lengths_of total_of
table_is t formula steps e entries total = joined (entries ∙ ap running_sums e) (total ∙ ap sum_of e)
  where
    joined : {xs ys : List Float} {x y : Float} → xs ≡ ys → x ≡ y → ◌≡◌ {A = Table} (record { entries = xs; total = x }) (record { entries = ys; total = y })
    joined p q = cc
