-- What an entry that can refuse gives through C: document 01's answer, its values in the lent `answer`. Definitions only.
use Rattle.std.specs.Prelude.{ℕ, List}
use Rattle.answers.specs.Answers.{Answer}
use Rattle.answers.specs.Report.{Report}

-- the answer's number is returned, and its values are written from the start of what was lent
abbrev pub Given : Answer → List ℕ → ℕ → List ℕ → Type 0
Given given before returned after = Report given.number given.values before returned after
