-- What is told of a season, and what is left in a lent output. Definitions only.
use Rattle.std.specs.Prelude.{ℕ, ◌≡◌, cond, List, [], ◌∷◌, Result, Ok, Err, ltb, length}
use Rattle.answers.specs.Answers.{Answer, accepted, refused}
use Rattle.answers.specs.Report.{written}
use Rattle.answers.specs.declared.refusals.Values.TheVariants.{One}
use Rattle.answers.specs.declared.refusals.Refusal.{Refusal}
use Rattle.answers.specs.declared.refusals.Refusal.TheVariants.{NoRoom, Range}
use Rattle.season_feed.specs.Seasons.{sheet_of, most_plans, too_many}

-- lines and an output of so many places: 8 with their length where it is shorter
unfoldable pub roomed : List ℕ → ℕ → Result ℕ Refusal
roomed lines places = cond (ltb places (length lines)) (Err (NoRoom (One (length lines)))) (Ok (length lines))

-- the lines that are written: all, or none
abbrev pub lines_by : Result ℕ Refusal → List ℕ → List ℕ
lines_by (Ok count) lines = lines
lines_by (Err reason) lines = []

pub record LinesGiven (lines before : List ℕ) (r : Result ℕ Refusal) (after : List ℕ) : Type 0 where
  pub answer : r ≡ roomed lines (length before)
  pub bytes : after ≡ written (lines_by (roomed lines (length before)) lines) before

-- the sheet's length; 13 with 17,179,869,184 for more plans, then 8 with the length for a shorter output
unfoldable pub told_of : List ℕ → ℕ → Result ℕ Refusal
told_of input places = cond (too_many input) (Err (Range most_plans)) (roomed (sheet_of input) places)

-- the sheet is written from the output's start; a refusal writes nothing
pub record Told (input before : List ℕ) (r : Result ℕ Refusal) (after : List ℕ) : Type 0 where
  pub answer : r ≡ told_of input (length before)
  pub bytes : after ≡ written (lines_by (told_of input (length before)) (sheet_of input)) before

-- the answer of document 01
abbrev pub sheet_answer : Result ℕ Refusal → Answer
sheet_answer (Ok count) = accepted (count ∷ [])
sheet_answer (Err reason) = refused reason
