-- What a C caller of `kihavute_resample` or `kihavute_morph` receives stands on its line in order (change request L11). Assumes nothing.
use Prim.Native.Nat.{ℕ, ◌≤◌}
use mathlib.Core.Path.{◌≡◌, refl, sym, ap, ◌∙◌}
use mathlib.Core.Bool.{Bool, true, false, not, ◌||◌, cond}
use mathlib.Core.List.{List, [], ◌∷◌, ◌++◌}
use native.Mathlib.Omega.{arith}
use lib.Dec.{T, ltb, nltb→le}
use lib.ListN.{length, drop}
use lib.Ieee.{Float}
use Rattle.answers.specs.Answers.{accepted}
use Rattle.answers.specs.declared.refusals.Values.TheVariants.{Two}
use Rattle.answers.specs.declared.refusals.Refusal.{Refusal}
use Rattle.answers.specs.declared.refusals.Refusal.TheVariants.{NoRoom, Range}
use Rattle.answers.proofs.Settled.{refused-not-accepted}
use Rattle.polyline.specs.Judging.{judge_two_of}
use Rattle.resample.specs.Planning.{plan_of, rows_by}
use Rattle.resample.specs.Resample.{Resample}
use Rattle.resample.specs.declared.spreading.Way.{Way}
use Rattle.resample_order.specs.Ordered.{InOrderBy}
use Rattle.resample_order.proofs.Entry.{rows-in-order, resampled-in-order}
use Rattle.morph.specs.Morph.{Outcomes, shapes, refusal, both, after, by_plans, plans_of, morph_of, answered, first_written, second_written, Morph}
use Rattle.morph.specs.declared.morphing.Morphed.{Morphed}
use Rattle.std.specs.Prelude.{Result, Ok, Err}
use Rattle.c_answer.specs.Counts.{count_given}
use Rattle.c_answer.specs.Given.{Given}
use Rattle.c_answer.proofs.Giving.{given-accepted}
use Rattle.kihavute_paths.specs.Morphs.{morphed_given}

module _ {answer answer' : List ℕ} {returned : ℕ} where
  pub resampled-stands : (points : List Float) (count : ℕ) (before output : List Float) (r : Result ℕ Refusal)
      → Resample points count before r output → Given (count_given r) answer returned answer' → InOrderBy points count returned output
  resampled-stands points count before output (Ok n) call g zero two more long = resampled-in-order points count n before output call two more long
  resampled-stands points count before output (Err reason) call g zero two more long = absurd (given-accepted reason g zero)

-- ---- the two shapes of a morph

-- what an accepted call planned, and what it writes
record Planned (from to : List Float) (count : ℕ) (first second : List Float) : Type 0 where
  few : count ≤ 4096
  one : Way
  other : Way
  one-planned : plan_of from count ≡ Ok one
  other-planned : plan_of to count ≡ Ok other
  one-rows : first ≡ rows_by from count one
  other-rows : second ≡ rows_by to count other

not-shapes : {reason : Refusal} {first second : List Float} → refusal reason ≡ shapes first second → ⊥
not-shapes e = let z : ◌≡◌ {A = ℕ} 0 1 = cc in omega arith

module _ (from to : List Float) (count room more : ℕ) (first second : List Float) where
  planned : morph_of from to count room more ≡ shapes first second → Planned from to count first second
  unfolding morph_of plans_of
  planned = go (judge_two_of from to) (ltb 4096 count) (plan_of from count) (plan_of to count) refl refl (λ n. nltb→le 4096 count n)
    where
      placed : (one other : Way) (b : Bool) → plan_of from count ≡ Ok one → plan_of to count ≡ Ok other → count ≤ 4096
          → cond b (refusal (NoRoom (Two (length (rows_by from count one)) (length (rows_by to count other))))) (shapes (rows_by from count one) (rows_by to count other)) ≡ shapes first second
          → Planned from to count first second
      placed one other true p q few e = absurd (not-shapes e)
      placed one other false p q few e = record { few = few; one = one; other = other; one-planned = p; other-planned = q; one-rows = (cc); other-rows = (cc) }

      go : (j : Result (Unit {0}) Refusal) (b : Bool) (p q : Result Way Refusal) → plan_of from count ≡ p → plan_of to count ≡ q → (T (not b) → count ≤ 4096)
          → after j (cond b (refusal (Range count)) (by_plans from to count room more (both p q))) ≡ shapes first second → Planned from to count first second
      go (Err reason) b p q e f few g = absurd (not-shapes g)
      go (Ok fine) true p q e f few g = absurd (not-shapes g)
      go (Ok fine) false (Err reason) q e f few g = absurd (not-shapes g)
      go (Ok fine) false (Ok one) (Err reason) e f few g = absurd (not-shapes g)
      go (Ok fine) false (Ok one) (Ok other) e f few g =
          placed one other (ltb room (length (rows_by from count one)) || ltb more (length (rows_by to count other))) e f (few tt) g

module _ {answer answer' : List ℕ} {returned : ℕ} where
  pub morphed-stands : (from to : List Float) (count : ℕ) (one other one' other' : List Float) (r : Result Morphed Refusal)
      → Morph from to count one other r one' other' → Given (morphed_given r) answer returned answer' → InOrderBy from count returned one' × InOrderBy to count returned other'
  morphed-stands from to count one other one' other' (Err reason) call g = (λ zero two more long. absurd (given-accepted reason g zero), λ zero two more long. absurd (given-accepted reason g zero))
  morphed-stands from to count one other one' other' (Ok m) call g = go (morph_of from to count (length one) (length other)) refl call.answer call.from_shape call.to_shape
    where
      go : (o : Outcomes) → morph_of from to count (length one) (length other) ≡ o → accepted (m.from ∷ m.to ∷ []) ≡ answered o
          → one' ≡ first_written o ++ drop (length (first_written o)) one → other' ≡ second_written o ++ drop (length (second_written o)) other
          → InOrderBy from count returned one' × InOrderBy to count returned other'
      go (refusal reason) e accept f s = absurd (refused-not-accepted reason (m.from ∷ m.to ∷ []) (sym accept))
      go (shapes first second) e accept f s =
          let p = planned from to count (length one) (length other) first second e in (
            λ zero two more long.
                rows-in-order from count p.one p.few p.one-planned two more long (drop (length first) one) one' (f ∙ ap (λ (xs : List Float). xs ++ drop (length first) one) p.one-rows),
            λ zero two more long.
                rows-in-order to count p.other p.few p.other-planned two more long (drop (length second) other) other'
                (s ∙ ap (λ (xs : List Float). xs ++ drop (length second) other) p.other-rows),
          )
