-- The loop that puts numbers in place, and the passes from the angles of an arc's samples to its steps. Assumes nothing.
use mathlib.Core.Path.{◌≡◌, refl, sym, ap, subst, ◌∙◌}
use mathlib.Core.Logic.{inl, inr}
use Prim.Native.Nat.{ℕ, suc, ◌+◌, ◌-◌, ◌≤◌, ◌<◌}
use native.Mathlib.Nat.{lt_of_not-le}
use native.Mathlib.Decide.{dec_le}
use native.Mathlib.Numerals.{add-one}
use native.Mathlib.Omega.{arith}
use mathlib.Core.List.{List}
use lib.ListN.{length, get_or, set}
use lib.Seq.{get_or-set_other}
use lib.Ieee.{Float, nan, binary32, sub}
use Rattle.lengths.specs.Length as lengths
use Rattle.lengths.proofs.Lists.{Passing, passing-start, passing-more, lengths-count, lengths-at}
use Rattle.trig.specs.declared.SinCos.{SinCos}
use Rattle.trig_all.specs.Rows.{Run}
use Rattle.math.specs.declared.points.Point.{Point}
use Rattle.table_samples.specs.Samples.{sample_at, steps_of}
use Rattle.table_samples.proofs.Steps.{steps-are}
use Rattle.ellipse.specs.declared.ends.Arc.{Arc}
use Rattle.ellipse.specs.Shape.{on_ellipse, point_turned}
use Rattle.arc.specs.Rows.{Row, angle_for, sine_for, cosine_for, point_for, across_for, along_for, step_for}

-- ---- each place before k has its number, and each from k on what it had
pub record Replacing (numbers : ℕ → Float) (old row : List Float) (k : ℕ) : Type 0 where
  pub passing : Passing (λ (j : ℕ) (v : Float). v ≡ numbers j) row 32 k
  pub rest : (j : ℕ) → k ≤ j → get_or row j nan ≡ get_or old j nan

pub replacing-start : {numbers : ℕ → Float} {old : List Float} → length old ≡ 32 → Replacing numbers old old 0
replacing-start h = record { passing = passing-start h; rest = λ j l. refl }

module _ {numbers : ℕ → Float} {old row : List Float} {k : ℕ} where
  -- what stands at k is still what it was
  pub replacing-here : Replacing numbers old row k → get_or row k nan ≡ get_or old k nan
  replacing-here r = r.rest k (let u : k ≤ k = omega arith in u)

  pub replacing-more : Replacing numbers old row k → k < 32 → (v : Float) → v ≡ numbers k → Replacing numbers old (set row k v) (k + 1)
  replacing-more r l v e =
      record {
        passing = passing-more r.passing l v e;
        rest = λ j g. get_or-set_other row k j v nan (λ (x : j ≡ k). omega arith) ∙ r.rest j (let u : k ≤ j = omega arith in u);
      }

  pub replacing-row : {n : ℕ} → Replacing numbers old row k → n ≤ k → Row numbers n row
  replacing-row r past = record { size = r.passing.size; each = λ j l. r.passing.done j (omega arith) }

-- ---- a run of 8 after those before it: `angles` has from `at` on what the first row had
module _ (f : Float → Float) (first : List Float) {at : ℕ} {angles old row new : List Float} where
  pub run-after : Replacing (λ (j : ℕ). f (get_or first j nan)) old row at → Run f at 8 angles row new → ((j : ℕ) → at ≤ j → get_or angles j nan ≡ get_or first j nan)
      → at ≤ 24 → Replacing (λ (j : ℕ). f (get_or first j nan)) old new (at + 8)
  run-after r n same low =
      record {
        passing = record { size = n.size; upto = omega arith; done = λ j l. put j (dec_le at j) l };
        rest = λ j g. n.rest j (inr g) ∙ r.rest j (omega arith);
      }
    where
      put : (j : ℕ) → Dec (at ≤ j) → j < at + 8 → get_or new j nan ≡ f (get_or first j nan)
      put j (yes l) h =
          let e : at + (j - at) ≡ j = omega arith in
          subst (λ (i : ℕ). get_or new i nan ≡ f (get_or first i nan)) e (n.own (j - at) (omega arith) ∙ ap f (same (at + (j - at)) (omega arith)))
      put j (no g) h = n.rest j (inl (lt_of_not-le g)) ∙ r.passing.done j (lt_of_not-le g)

-- ---- from angles to steps
module _
    (shape : Arc) (turn : SinCos) {angles sines cosines across along x y : List Float}
    (angled : Row (angle_for shape) 32 angles) (s : Row (sine_for angles) 32 sines) (c : Row (cosine_for angles) 32 cosines)
    (p : Row (across_for shape.center shape.radii turn sines cosines) 32 across) (q : Row (along_for shape.center shape.radii turn sines cosines) 32 along)
    (dx : Row (step_for across) 31 x) (dy : Row (step_for along) 31 y)
  where
    sample-is : (k : ℕ) → k < 32 → point_for shape.center shape.radii turn sines cosines k ≡ sample_at (point_turned shape turn) 31 k
    unfolding sample_at point_turned
    sample-is k l = rw (s.each k l, c.each k l, angled.each k l)

    apart : (coordinate : Point → Float) {row steps : List Float} → Row (λ (k : ℕ). coordinate (point_for shape.center shape.radii turn sines cosines k)) 32 row → Row (step_for row) 31 steps
        → (k : ℕ) → k < 31 → get_or steps k nan ≡ sub binary32 (coordinate (sample_at (point_turned shape turn) 31 (suc k))) (coordinate (sample_at (point_turned shape turn) 31 k))
    apart coordinate {row} r d k l =
        let here : get_or row k nan ≡ coordinate (sample_at (point_turned shape turn) 31 k) = r.each k (omega arith) ∙ ap coordinate (sample-is k (omega arith)) in
        let next : get_or row (k + 1) nan ≡ coordinate (sample_at (point_turned shape turn) 31 (k + 1)) = r.each (k + 1) (omega arith) ∙ ap coordinate (sample-is (k + 1) (omega arith)) in
        let there = next ∙ ap (λ (m : ℕ). coordinate (sample_at (point_turned shape turn) 31 m)) (add-one k) in
        d.each k l ∙ ap (λ (v : Float). sub binary32 v (get_or row k nan)) there ∙ ap (sub binary32 (coordinate (sample_at (point_turned shape turn) 31 (suc k)))) here

    pub rows-steps : (steps : List Float) → steps ≡ lengths.lengths_of 31 x y → steps ≡ steps_of (point_turned shape turn) 31
    rows-steps steps e =
        steps-are (point_turned shape turn) x y steps 31 (ap length e ∙ lengths-count 31 x y)
        (apart (λ (point : Point). point.x) p dx)
        (apart (λ (point : Point). point.y) q dy)
        (λ j h. ap (λ (z : List Float). get_or z j nan) e ∙ lengths-at 31 x y j h)
