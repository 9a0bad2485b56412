-- The loop that measures: before the point number i, the running length at the point before it, and every one up to there finite. Assumes nothing.
use mathlib.Core.Path.{◌≡◌, refl, sym, ap, ◌∙◌, subst}
use Prim.Native.Nat.{ℕ, suc, ◌+◌, ◌-◌, ◌≤◌, ◌<◌}
use native.Mathlib.Omega.{arith}
use mathlib.Core.Bool.{Bool, true, false, cond}
use mathlib.Core.List.{List}
use borrow.Author.Tests.{lt-ltb, le-ltb, ltb-false}
use lib.ListN.{length}
use lib.Dec.{T, ltb}
use lib.Ieee.{Float, binary32, add}
use lib.Ieee.Scale.{finite}
use Rattle.std.specs.Prelude.{Ok, Err}
use Rattle.answers.specs.declared.refusals.Refusal.TheVariants.{NotFinite}
use Rattle.floats.specs.Floats.{zero_f}
use Rattle.floats.proofs.Tests.{passed}
use Rattle.table.specs.Lookup.{at}
use Rattle.polyline.specs.Points.{count_of}
use Rattle.polyline.specs.Lengths.{leg_of, lengths_of, total_of, first_not_finite, measured_of}
use Rattle.polyline.proofs.Legs.{lengths-count, lengths-first, lengths-next, total-is}
use Rattle.polyline.proofs.FirstNotFinite.{finite-more, finite-start, finite-stop, finite-before, finite-upto}

pub record Measuring (points : List Float) (total : Float) (i : ℕ) : Type 0 where
  pub here : total ≡ at (lengths_of points) (i - 1)
  pub fine : i ≤ first_not_finite (lengths_of points)

module _ (points : List Float) where
  pub measuring-start : (total : Float) → total ≡ zero_f → Measuring points total 1
  measuring-start total e = record {
    here = e ∙ sym (lengths-first points);
    fine = finite-start (lengths_of points) (let n = lengths-count points in omega arith) (lengths-first points);
  }

  module _ (total : Float) (i : ℕ) (m : Measuring points total i) (from : 1 ≤ i) (inside : i < count_of points) (leg : Float) (l : leg ≡ leg_of points (i - 1)) where
    reached : add binary32 total leg ≡ at (lengths_of points) i
    reached =
        let e : suc (i - 1) ≡ i = omega arith in
        ap (λ (x : Float). add binary32 x leg) m.here ∙ ap (add binary32 (at (lengths_of points) (i - 1))) l ∙ sym (lengths-next points (i - 1) (omega arith)) ∙ ap (at (lengths_of points)) e

    in_list : i < length (lengths_of points)
    in_list = let n = lengths-count points in omega arith

    pub measuring-more : finite (add binary32 total leg) ≡ true → Measuring points (add binary32 total leg) (i + 1)
    measuring-more e = record {
      here = reached ∙ ap (at (lengths_of points)) (let p : i ≡ i + 1 - 1 = omega arith in p);
      fine = let f = finite-more (lengths_of points) i m.fine in_list (ap finite (sym reached) ∙ e) in omega arith;
    }

    pub measuring-stop : finite (add binary32 total leg) ≡ false → Err (NotFinite i) ≡ measured_of points
    unfolding measured_of
    measuring-stop e =
        let s = finite-stop (lengths_of points) i m.fine in_list (ap finite (sym reached) ∙ e) in
        rw (s, lt-ltb i (length (lengths_of points)) in_list) refl

  pub measuring-done : (total : Float) (i : ℕ) → Measuring points total i → 1 ≤ i → count_of points ≤ i → Ok total ≡ measured_of points
  unfolding measured_of
  measuring-done total i m from past =
      let f = m.fine in
      let u = finite-upto (lengths_of points) in
      let n = lengths-count points in
      let e : i - 1 ≡ count_of points - 1 = omega arith in
      let t : total ≡ total_of points = m.here ∙ ap (at (lengths_of points)) e ∙ total-is points in
      let b = le-ltb (first_not_finite (lengths_of points)) (length (lengths_of points)) (omega arith) in
      rw (b, t) refl

-- what a total that was measured is
pub record Whole (points : List Float) (total : Float) : Type 0 where
  pub sum : total ≡ total_of points
  pub fine : T (finite total)

module _ (points : List Float) (total : Float) where
  clash : (place : ℕ) → Err (NotFinite place) ≡ Ok total → Whole points total
  clash place e = cc

  all-fine : length (lengths_of points) ≤ first_not_finite (lengths_of points) → T (finite (total_of points))
  all-fine h = passed (ap finite (sym (total-is points)) ∙ finite-before (lengths_of points) (count_of points - 1) (let n = lengths-count points in omega arith))

  pub measured-whole : measured_of points ≡ Ok total → Whole points total
  unfolding measured_of
  measured-whole = go (ltb (first_not_finite (lengths_of points)) (length (lengths_of points))) refl
    where
      go : (b : Bool) → ltb (first_not_finite (lengths_of points)) (length (lengths_of points)) ≡ b → cond b (Err (NotFinite (first_not_finite (lengths_of points)))) (Ok (total_of points)) ≡ Ok total → Whole points total
      go true l e = clash (first_not_finite (lengths_of points)) e
      go false l e =
          let s : total ≡ total_of points = cc in
          record { sum = s; fine = subst (λ (x : Float). T (finite x)) (sym s) (all-fine (ltb-false (first_not_finite (lengths_of points)) (length (lengths_of points)) l)) }
