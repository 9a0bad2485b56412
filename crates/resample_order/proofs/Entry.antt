-- Demand 3 for a resampled line, over the entry: what an accepted call of `resample` leaves in the lent output stands on the line in order. The line has two or more points and is longer
-- than 2^-23, and two or more points are asked for; elsewhere copies of the first point are given, and nothing is claimed. Assumes nothing.
use Prim.Native.Nat.{ℕ, zero, suc, ◌+◌, ◌-◌, ◌*◌, ◌≤◌, ◌<◌}
use mathlib.Core.Path.{◌≡◌, refl, sym, ap, ◌∙◌, subst}
use mathlib.Core.Logic.{inl, inr}
use native.Mathlib.Nat.{eq-or-lt_of_le, le_of_suc-le-suc, not-suc-le-zero}
use native.Mathlib.Omega.{arith}
use mathlib.Core.Bool.{Bool, true, false, not, cond}
use mathlib.Core.List.{List, [], ◌∷◌, ◌++◌, append_assoc}
use lib.Dec.{T, ltb, nltb→le}
use lib.ListN.{length, drop}
use lib.Seq.{get_or-append-add}
use lib.Ieee.{Float, nan, lt, le}
use lib.Ieee.Scale.{finite}
use Rattle.floats.specs.Floats.{epsilon_f}
use Rattle.floats.proofs.Order.{lt→not-le}
use Rattle.answers.specs.Answers.{accepted}
use Rattle.answers.specs.declared.refusals.Values.TheVariants.{One}
use Rattle.answers.specs.declared.refusals.Refusal.{Refusal}
use Rattle.answers.specs.declared.refusals.Refusal.TheVariants.{NoRoom, Range}
use Rattle.answers.proofs.Settled.{refused-not-accepted}
use Rattle.math.specs.declared.points.Point.{Point}
use Rattle.math.specs.Math.{point_of}
use Rattle.table.specs.Lookup.{at}
use Rattle.polyline.specs.Points.{count_of, point_at, two_of, rows_of}
use Rattle.polyline.specs.Lengths.{total_of, measured_of}
use Rattle.polyline.specs.Judging.{judge_of}
use Rattle.polyline.proofs.Measuring.{measured-whole}
use Rattle.polyline.proofs.Rows.{rows-length}
use Rattle.resample.specs.Spacing.{spread_at}
use Rattle.resample.specs.Planning.{by_length, plan_of, rows_by}
use Rattle.resample.specs.Resample.{Outcome, numbers, refusal, after, by_plan, resample_of, answered, written_by, Resample}
use Rattle.resample.specs.declared.spreading.Way.{Way}
use borrow.Author.Tests.{ne_eqb}
use Rattle.std.specs.Prelude.{Result, Ok, Err}
use Rattle.resample_order.specs.Ordered.{chosen_of, share_at, OnLeg, InOrder}
use Rattle.resample_order.proofs.Theorems.{spread-in-order}

-- ---- a point among the rows
module _ (point : ℕ → Point) where
  row_at : (k i : ℕ) (rest : List Float) → i < k → point_at (rows_of point k ++ rest) i ≡ point i
  unfolding rows_of point_at
  row_at zero i rest h = absurd (not-suc-le-zero h)
  row_at (suc k) i rest h = elim (eq-or-lt_of_le (le_of_suc-le-suc h)) [
    | inr l ↦ ap (λ (xs : List Float). point_at xs i) (append_assoc (rows_of point k) (two_of (point k)) rest) ∙ row_at k i (two_of (point k) ++ rest) l
    | inl e ↦
        ap (λ (xs : List Float). point_at xs i) (append_assoc (rows_of point k) (two_of (point k)) rest)
        ∙ ap (point_at (rows_of point k ++ (two_of (point k) ++ rest))) e
        ∙ both (place 0 (2 * k) (let n = rows-length point k in omega arith)) (place 1 (2 * k + 1) (let n = rows-length point k in omega arith))
        ∙ ap point (sym e)
  ]
    where
      place : (j m : ℕ) → m ≡ length (rows_of point k) + j → at (rows_of point k ++ (two_of (point k) ++ rest)) m ≡ at (two_of (point k) ++ rest) j
      place j m e = ap (at (rows_of point k ++ (two_of (point k) ++ rest))) e ∙ get_or-append-add (rows_of point k) (two_of (point k) ++ rest) j nan

      both : {x y : Float} → x ≡ (point k).x → y ≡ (point k).y → point_of x y ≡ point k
      both p q = rw (p, q) refl

-- ---- an accepted call: what was planned, and what is written
record Written (points : List Float) (count : ℕ) (list : List Float) : Type 0 where
  way : Way
  few : count ≤ 4096
  planned : plan_of points count ≡ Ok way
  rows : list ≡ rows_by points count way

same_numbers : {a b : List Float} → numbers a ≡ numbers b → a ≡ b
same_numbers e = cc

not-numbers : {reason : Refusal} {list : List Float} → refusal reason ≡ numbers list → ⊥
not-numbers e = let z : ◌≡◌ {A = ℕ} 0 1 = cc in omega arith

module _ (points : List Float) (count room : ℕ) (list : List Float) where
  given : resample_of points count room ≡ numbers list → Written points count list
  unfolding resample_of
  given = go (judge_of points) (ltb 4096 count) (plan_of points count) refl (λ n. nltb→le 4096 count n)
    where
      placed : (way : Way) (b : Bool) → cond b (refusal (NoRoom (One (length (rows_by points count way))))) (numbers (rows_by points count way)) ≡ numbers list → list ≡ rows_by points count way
      placed way true e = absurd (not-numbers e)
      placed way false e = sym (same_numbers e)

      go : (j : Result (Unit {0}) Refusal) (b : Bool) (p : Result Way Refusal) → plan_of points count ≡ p → (T (not b) → count ≤ 4096)
          → after j (cond b (refusal (Range count)) (by_plan points count room p)) ≡ numbers list → Written points count list
      go (Err reason) b p planned few e = absurd (not-numbers e)
      go (Ok fine) true p planned few e = absurd (not-numbers e)
      go (Ok fine) false (Err reason) planned few e = absurd (not-numbers e)
      go (Ok fine) false (Ok way) planned few e = record { way = way; few = few tt; planned = planned; rows = placed way (ltb room (length (rows_by points count way))) e }

unlike : (b : Bool) → T (not b) → b ≡ false
unlike true h = absurd h
unlike false h = refl

-- ---- what was planned, from the start of an output
module _ (points : List Float) (count : ℕ) (way : Way) (few : count ≤ 4096) (planned : plan_of points count ≡ Ok way)
    (two : 2 ≤ count_of points) (more : 2 ≤ count) (long : T (lt epsilon_f (total_of points))) where
  abbrev total : Float
  total = total_of points

  spread : (way ≡ Way.Spread total) × T (finite total)
  unfolding plan_of by_length
  spread = go (measured_of points) refl
    where
      by : plan_of points count ≡ by_length (measured_of points)
      by =
          rw
          (ne_eqb (count_of points) 0 (λ z. omega arith), ne_eqb count 0 (λ z. omega arith), ne_eqb (count_of points) 1 (λ z. omega arith), ne_eqb count 1 (λ z. omega arith)) refl

      go : (m : Result Float Refusal) → measured_of points ≡ m → (way ≡ Way.Spread total) × T (finite total)
      go (Err reason) e = let p = sym planned ∙ by ∙ ap by_length e in absurd (cc)
      go (Ok sum) e =
          let w = measured-whole points sum e in
          let short : le sum epsilon_f ≡ false = unlike (le sum epsilon_f) (lt→not-le sum epsilon_f (subst (λ (x : Float). T (lt epsilon_f x)) (sym w.sum) long)) in
          let p = rw short at (sym planned ∙ by ∙ ap by_length e) in
          let same : way ≡ Way.Spread sum = cc in
          (same ∙ ap Way.Spread w.sum, subst (λ (x : Float). T (finite x)) w.sum w.fine)

  pub rows-in-order : (rest now : List Float) → now ≡ rows_by points count way ++ rest → InOrder points total count (point_at now) (chosen_of points total count) (share_at points total count)
  rows-in-order rest now is =
      let s = spread in
      stands s.1 (λ i l. ap (λ (xs : List Float). point_at xs i) (is ∙ ap (λ (w : Way). rows_by points count w ++ rest) s.0) ∙ row_at (spread_at points total count) count i rest l)
    where
      stands : T (finite total) → ((i : ℕ) → i < count → point_at now i ≡ spread_at points total count i)
          → InOrder points total count (point_at now) (chosen_of points total count) (share_at points total count)
      stands fine same =
          let r = spread-in-order points total count (record { two = two; more = more; few = few; sum = refl; fine = fine; long = long }) in
          record {
            starts = (same 0 (omega arith) ∙ r.starts.0, r.starts.1);
            ends = (same (count - 1) (omega arith) ∙ r.ends.0, r.ends.1);
            rises = r.rises;
            order = r.order;
            between = λ i a b. subst (OnLeg points (chosen_of points total count i) (share_at points total count i)) (sym (same i (omega arith))) (r.between i a b);
            enclosed = r.enclosed;
          }

-- ---- the theorem
module _ (points : List Float) (count n : ℕ) (before now : List Float) (call : Resample points count before (Ok n) now)
    (two : 2 ≤ count_of points) (more : 2 ≤ count) (long : T (lt epsilon_f (total_of points))) where
  is-numbers : (o : Outcome) → resample_of points count (length before) ≡ o → accepted (n ∷ []) ≡ answered o → now ≡ written_by o ++ drop (length (written_by o)) before
      → (list : List Float) × (resample_of points count (length before) ≡ numbers list) × (now ≡ list ++ drop (length list) before)
  is-numbers (numbers list) e a w = (list, e, w)
  is-numbers (refusal reason) e a w = absurd (refused-not-accepted reason (n ∷ []) (sym a))

  -- Over an accepted call, the points in the lent output stand on the line in order.
  pub resampled-in-order : InOrder points (total_of points) count (point_at now) (chosen_of points (total_of points) count) (share_at points (total_of points) count)
  resampled-in-order =
      let o = is-numbers (resample_of points count (length before)) refl call.answer call.output in
      let w = given points count (length before) o.0 o.1 in
      rows-in-order points count w.way w.few w.planned two more long (drop (length o.0) before) now
      (o.2 ∙ ap (λ (xs : List Float). xs ++ drop (length o.0) before) w.rows)
