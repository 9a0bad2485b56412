-- What making a spline's table and asking a stored spline give to C. Definitions only.
use Rattle.std.specs.Prelude.{ℕ, ◌≡◌, cond, List, [], ◌∷◌, length, Float, Result}
use Rattle.answers.specs.Answers.{Answer}
use Rattle.answers.specs.Report.{short, written}
use Rattle.spline_table.specs.Tables.{spline_table_of, answered, places_of}
use Rattle.c_answer.specs.Given.{Given}
use Rattle.c_answer.specs.Places.{turn_given}
use Rattle.answers.specs.declared.refusals.Refusal.{Refusal}

-- the count of the entries, or the refusal; a short answer is judged first, and then nothing is stored
pub record SplineTableGiven (points before : List Float) (answer : List ℕ) (returned : ℕ) (after : List Float) (answer' : List ℕ) : Type 0 where
  pub given : Given (answered (spline_table_of points (length before))) answer returned answer'
  pub table : after ≡ cond (short answer) before (written (places_of (spline_table_of points (length before))) before)

-- a length: its bits, as of a heading
abbrev pub measure_given : Result Float Refusal → Answer
measure_given = turn_given
