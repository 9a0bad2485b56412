-- The invariant: the numbers before i have their patterns, and the rest decides (`Agreeing`). Assumes nothing.
use Rattle.replay_records.proofs.Rows.{Agreeing}
use Rattle.replay_records.proofs.numbers.same_numbers.Given as goal

abbrev pub invariant-loop-x : goal.invariant-loop-x
invariant-loop-x l = Agreeing l.numbers l.text l.at l.step l.offset l.x-index
