-- A row of 16 entries: what the lengths of its differences are, and the loop that stores the running lengths. Assumes nothing.
use mathlib.Core.Path.{◌≡◌, refl, sym, ap, ◌∙◌, subst}
use mathlib.Core.List.{List}
use Prim.Native.Nat.{ℕ, suc, ◌+◌, ◌≤◌, ◌<◌, zero-le}
use native.Mathlib.Nat.{add-zero}
use native.Mathlib.Omega.{arith}
use lib.ListN.{length, get_or, set, take, length-set, length-take, length-append, length-drop}
use lib.Ieee.{Float, nan, binary32, add, sub}
use Rattle.answers.specs.Report.{written}
use Rattle.lengths.specs.Length as lengths
use Rattle.lengths.proofs.Lists.{lengths-at}
use Rattle.math.specs.declared.points.Point.{Point}
use Rattle.math.specs.Math.{sub_of, length_of, distance_of}
use Rattle.table.specs.Lookup.{at}
use Rattle.table_samples.specs.Samples.{sample_at, lengths_of}
use Rattle.table_samples.proofs.Made.{made-count}
use Rattle.spline_table.specs.declared.rows.Row.{Row}
use Rattle.spline_table.specs.declared.rows.Walk.{Walk}
use Rattle.spline_table.specs.Rows.{Walking, Differences, Entered}
use Rattle.spline_table.proofs.Passing.{lengths-next}
use Rattle.spline_table.proofs.Filling.{more-written}

-- ---- the lengths of the differences are the steps
pub row_step : {formula : Float → Point} {n k : ℕ} {row : Row} → Differences formula n k row → (steps : List Float) → steps ≡ lengths.lengths_of 16 row.x row.y → (i : ℕ) → i < 16
    → at steps i ≡ distance_of (sample_at formula n (k + i)) (sample_at formula n (suc (k + i)))
unfolding distance_of length_of sub_of
row_step {formula} {n} {k} {row} d steps e i inside =
    ap (λ (xs : List Float). at xs i) e ∙ lengths-at 16 row.x row.y i inside
    ∙ ap (λ (z : Float). lengths.length_of z (get_or row.y i nan)) (d.across i inside)
    ∙ ap (lengths.length_of (sub binary32 (sample_at formula n (suc (k + i))).x (sample_at formula n (k + i)).x)) (d.along i inside)

-- ---- the entries of the row before i are stored, and `total` is the next one
pub record Storing (formula : Float → Point) (n k : ℕ) (table₀ : List Float) (total : Float) (table : List Float) (i : ℕ) : Type 0 where
  pub upto : i ≤ 16
  pub sum : total ≡ at (lengths_of formula n) (k + i)
  pub size : length table ≡ length table₀
  pub entered : (before : List Float) → Entered (lengths_of formula n) before k table₀ → Entered (lengths_of formula n) before (k + i) table

module _ {formula : Float → Point} {n k : ℕ} {table₀ : List Float} where
  pub storing-start : {walk : Walk} → Walking formula n walk k → Storing formula n k table₀ walk.total table₀ 0
  storing-start w =
      record {
        upto = zero-le;
        sum = w.sum ∙ ap (at (lengths_of formula n)) (sym (add-zero k));
        size = refl;
        entered = λ before e. e ∙ ap (λ (m : ℕ). written (take m (lengths_of formula n)) before) (sym (add-zero k));
      }

  module _ {total : Float} {table : List Float} {i : ℕ} (s : Storing formula n k table₀ total table i) (inside : i < 16) (whole : k + 16 ≤ n) (room : n < length table₀) where
    reaches : (before : List Float) → Entered (lengths_of formula n) before k table₀ → k + i < length before
    reaches before e =
        let size = simp (length-append, length-drop, length-take) at (ap length e) in
        omega (arith, made-count formula n)

    pub storing-more : (step : Float) → step ≡ distance_of (sample_at formula n (k + i)) (sample_at formula n (suc (k + i))) → Storing formula n k table₀ (add binary32 total step) (set table (k + i) total) (i + 1)
    storing-more step e =
        let next : k + (i + 1) ≡ suc (k + i) = omega arith in
        record {
          upto = omega arith;
          sum = ap (λ (z : Float). add binary32 z step) s.sum ∙ ap (add binary32 (at (lengths_of formula n) (k + i))) e ∙ sym (lengths-next formula n (k + i) (omega arith)) ∙ ap (at (lengths_of formula n)) (sym next);
          size = length-set table (k + i) total ∙ s.size;
          entered = λ before h.
              ap (λ (xs : List Float). set xs (k + i) total) (s.entered before h) ∙ ap (set (written (take (k + i) (lengths_of formula n)) before) (k + i)) s.sum
              ∙ more-written (lengths_of formula n) before (k + i) (omega (arith, made-count formula n)) (reaches before h)
              ∙ ap (λ (m : ℕ). written (take m (lengths_of formula n)) before) (sym next);
        }

  pub storing-ends : {total : Float} {table : List Float} {i : ℕ} → Storing formula n k table₀ total table i → 16 ≤ i → Storing formula n k table₀ total table 16
  storing-ends {total} {table} {i} s past = subst (Storing formula n k table₀ total table) (let u = s.upto in let g : i ≡ 16 = omega arith in g) s
