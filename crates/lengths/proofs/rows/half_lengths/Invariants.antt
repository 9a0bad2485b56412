-- The invariant: each place so far has its length or 0, and its length where the flag is not set (`Flagged`). Assumes nothing.
use Rattle.lengths.proofs.Lists.{Flagged}
use Rattle.lengths.proofs.rows.half_lengths.Given as goal

abbrev pub invariant-loop-own : goal.invariant-loop-own
invariant-loop-own l = Flagged l.x l.y l.known 16 l.own-index l.unsettled
