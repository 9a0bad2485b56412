-- The end of the input: the lines of the counters are the sheet of all bytes fed. Assumes nothing.
use Prim.Native.Nat.{ℕ, ◌+◌, ◌≤◌, ◌<◌}
use mathlib.Core.Path.{◌≡◌, refl, sym, ap, ◌∙◌, subst}
use mathlib.Core.Bool.{Bool, true, false, cond}
use mathlib.Core.List.{List, [], ◌∷◌, ◌++◌}
use native.Mathlib.Omega.{arith}
use borrow.Author.Tests.{lt-ltb, le-ltb, eq-eqb, ne_eqb}
use lib.Dec.{ltb}
use lib.ListN.{length, length-append}
use Rattle.answers.specs.Report.{written}
use Rattle.answers.specs.declared.refusals.Values.TheVariants.{One}
use Rattle.answers.specs.declared.refusals.Refusal.TheVariants.{NoRoom, Range}
use Rattle.answers.proofs.Writing.{written-more}
use Rattle.station_lines.specs.Put.{PutWithin}
use Rattle.season_plan.specs.Rows.{marked}
use Rattle.season_plan.specs.Plans.{Outcome, refused}
use Rattle.season_sheet.specs.Sheet.{lines_of}
use Rattle.season_sheet.specs.declared.measures.Lengths.{Lengths}
use Rattle.season_feed.specs.Seasons.{outcomes_of, sheet_for, sheet_of, most_plans}
use Rattle.season_feed.specs.Telling.{roomed, lines_by, LinesGiven, told_of, Told}
use Rattle.season_feed.specs.Standing.{Standing, Open, Stands, ends_whole, end_counts, SheetTold}
use Rattle.std.specs.Prelude.{Result, Ok, Err}
use Rattle.answers.specs.declared.refusals.Refusal.{Refusal}
use Rattle.season_feed.specs.declared.feeding.Season.{Season}
use Rattle.season_feed.proofs.Tallies.{tally-sheet, ended-sheet}
use Rattle.season_feed.proofs.Plans.{ends-whole, ends-cut, ends-many}

-- ---- the room

-- lines of which it was counted first how long they are
module _ (lines before : List ℕ) {most size : ℕ} {little less : List ℕ} (counted : PutWithin most lines 0 little less size) where
  takes : size ≡ length lines
  takes = omega (arith, counted.put.past)

  pub short-output : length before < size → LinesGiven lines before (Err (NoRoom (One size))) before
  unfolding roomed
  short-output h =
      let less : length before < length lines = omega (arith, takes) in
      record {
        answer = ap (λ (n : ℕ). Err (NoRoom (One n))) takes ∙ rw (lt-ltb (length before) (length lines) less) refl;
        bytes = rw (lt-ltb (length before) (length lines) less) refl;
      }

  pub whole-output : {after : List ℕ} {n r : ℕ} → size ≤ length before → PutWithin n lines 0 before after r → LinesGiven lines before (Ok r) after
  unfolding roomed
  whole-output {r = r} h p =
      let room : length lines ≤ length before = omega (arith, takes) in
      let own : r ≡ length lines = omega (arith, p.put.past) in
      record {
        answer = rw (le-ltb (length before) (length lines) room) (ap Ok own);
        bytes = rw (le-ltb (length before) (length lines) room) (p.put.memory ∙ written-more [] lines before (omega (arith, room)));
      }

-- ---- the answer

module _ (input : List ℕ) {before after : List ℕ} {r : Result ℕ Refusal} where
  -- not too many plans: the lines of the outcomes are the sheet
  told-lines : {lines : List ℕ} (outcomes : List Outcome) → outcomes_of input ≡ outcomes → length outcomes ≤ most_plans → lines ≡ sheet_for outcomes → LinesGiven lines before r after → Told input before r after
  unfolding told_of sheet_of
  told-lines {lines} outcomes e few f p =
      let few-plans : ltb most_plans (length (outcomes_of input)) ≡ false = le-ltb most_plans (length (outcomes_of input)) (omega (arith, few, ap length e)) in
      let own : LinesGiven (sheet_for (outcomes_of input)) before r after = subst (λ (l : List ℕ). LinesGiven l before r after) (f ∙ ap sheet_for (sym e)) p in
      record { answer = rw few-plans own.answer; bytes = rw few-plans own.bytes }

told-many : (input before : List ℕ) → most_plans < length (outcomes_of input) → Told input before (Err (Range most_plans)) before
unfolding told_of
told-many input before h = record { answer = rw (lt-ltb most_plans (length (outcomes_of input)) h) refl; bytes = rw (lt-ltb most_plans (length (outcomes_of input)) h) refl }

-- ---- the three ends

module _ {season : Season} {text counts before after : List ℕ} {r : Result ℕ Refusal} where
  pub sheet-whole : true ≡ ends_whole season.phase → LinesGiven (lines_of counts season.lengths) before r after → SheetTold season text counts before r counts after
  sheet-whole e p =
      record {
        all = λ bytes s o.
            told-lines bytes s.done (ends-whole bytes s.done season.phase text (sym e) s.standing) (omega (arith, s.tally.plans-are, s.tally.most)) (tally-sheet s.tally) p;
        counted = rw (sym e) refl;
      }

  pub sheet-cut :
      {counts' : List ℕ} → false ≡ ends_whole season.phase → (season.plans ≡ most_plans → ⊥) → counts' ≡ marked (13 ∷ []) counts
      → LinesGiven (lines_of counts' season.lengths) before r after → SheetTold season text counts before r counts' after
  sheet-cut e h f p =
      record {
        all = λ bytes s o.
            let few : length s.done < most_plans = omega (arith, s.tally.plans-are, s.tally.most, h) in
            told-lines bytes (s.done ++ (refused 13 ∷ [])) (ends-cut bytes s.done season.phase text (sym e) o s.standing few)
            (omega (arith, few, length-append s.done (refused 13 ∷ []))) (ended-sheet s.tally f) p;
        counted = rw (sym e, ne_eqb season.plans most_plans h) f;
      }

pub sheet-many : {season : Season} {text counts before : List ℕ} → false ≡ ends_whole season.phase → season.plans ≡ most_plans → SheetTold season text counts before (Err (Range most_plans)) counts before
sheet-many {season} {text} {counts} {before} e h =
    record {
      all = λ bytes s o. told-many bytes before (ends-many bytes s.done season.phase text (sym e) o s.standing (omega (arith, s.tally.plans-are, h)));
      counted = rw (sym e, eq-eqb season.plans most_plans h) refl;
    }

-- ---- any two allowed results are equal: two sheets of the same bytes are the same bytes
pub told-unique : (input before : List ℕ) (r s : Result ℕ Refusal) (after other : List ℕ) → Told input before r after → Told input before s other → (r ≡ s) × (after ≡ other)
told-unique input before r s after other p q = (p.answer ∙ sym q.answer, p.bytes ∙ sym q.bytes)
