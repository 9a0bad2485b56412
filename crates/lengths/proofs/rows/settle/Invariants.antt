-- The invariant: before j each place has its length, and every place its length or 0 (`Settling`). Assumes nothing.
use Rattle.lengths.proofs.Lists.{Settling}
use Rattle.lengths.proofs.rows.settle.Given as goal

abbrev pub invariant-loop-j : goal.invariant-loop-j
invariant-loop-j g l = Settling l.x l.y l.out g.row.N l.j
