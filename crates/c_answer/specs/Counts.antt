-- What a count gives to C: itself. Definitions only.
use Rattle.std.specs.Prelude.{ℕ, [], ◌∷◌, Result, Ok, Err}
use Rattle.answers.specs.Answers.{Answer, accepted, refused}
use Rattle.answers.specs.declared.refusals.Refusal.{Refusal}

abbrev pub count_given : Result ℕ Refusal → Answer
count_given (Ok count) = accepted (count ∷ [])
count_given (Err refusal) = refused refusal
