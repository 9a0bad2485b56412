-- What strict reading gives to C. Definitions only.
use Rattle.std.specs.Prelude.{ℕ, List}
use Rattle.answers.specs.Answers.{Answer}
use Rattle.answers.specs.Report.{Report}
use Rattle.strict.specs.Verdicts.{JudgedBy}

-- the judgement of the text under the edition of a number, reported
pub record StrictReading (edition : ℕ) (text before : List ℕ) (returned : ℕ) (after : List ℕ) : Type 0 where
  pub answer : Answer
  pub judged : JudgedBy edition text answer
  pub reported : Report answer.number answer.values before returned after
