-- The check of a stored command list (document 01, "The answers"). Definitions only.
use Rattle.std.specs.Prelude.{ℕ, cond, List, [], ltb, Float, Result, Ok, Err, length}
use Rattle.answers.specs.Answers.{Answer, refused, accepted}
use Rattle.answers.specs.declared.refusals.Refusal.{Refusal}
use Rattle.answers.specs.declared.refusals.Refusal.TheVariants.{BadList, Range}
use Rattle.commands.specs.Listed.{Listing, well_formed, malformed, listed}

-- the number and the values of each case
abbrev pub answer_of : Result Unit Refusal → Answer
answer_of (Ok unit) = accepted []
answer_of (Err refusal) = refused refusal

abbrev pub judged : Listing → Answer
judged (well_formed commands) = accepted []
judged (malformed k) = refused (BadList k)

-- "In building: 13, 9 over the whole list": "a command list above 65,536" is 13 with its number
unfoldable pub check_commands_of : List ℕ → List Float → Answer
check_commands_of letters numbers = cond (ltb 65536 (length letters)) (refused (Range (length letters))) (judged (listed 0 letters numbers))
