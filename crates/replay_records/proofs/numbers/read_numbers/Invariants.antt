-- The invariant: the numbers before i are in, and the rest of the row belongs past them (`Reading`). Assumes nothing.
use Rattle.replay_records.proofs.Rows.{Reading}
use Rattle.replay_records.proofs.numbers.read_numbers.Given as goal

abbrev pub invariant-loop-x : goal.invariant-loop-x
invariant-loop-x l = Reading l.text l.at l.step l.initial.out l.out l.offset l.x-index
