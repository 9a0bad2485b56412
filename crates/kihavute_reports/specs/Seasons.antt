-- What a season gives to C. Definitions only.
use Rattle.std.specs.Prelude.{ℕ, ◌≡◌, cond, List, length}
use Rattle.answers.specs.Report.{short, written}
use Rattle.season_feed.specs.Seasons.{sheet_of}
use Rattle.season_feed.specs.Telling.{lines_by, told_of, sheet_answer}
use Rattle.c_answer.specs.Given.{Given}

-- the sheet's length is reported, and the sheet is written from the output's start; with an answer that is too short nothing is
pub record SeasonGiven (input output answer : List ℕ) (returned : ℕ) (output' answer' : List ℕ) : Type 0 where
  pub given : Given (sheet_answer (told_of input (length output))) answer returned answer'
  pub bytes : output' ≡ cond (short answer) output (written (lines_by (told_of input (length output)) (sheet_of input)) output)
