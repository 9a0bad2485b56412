-- `path_stored::counts::tables_of_few` meets its contract. The invariant: the sum is of the segments before j. The measure is the segments left. Assumes nothing.
use Prim.Native.Nat.{◌≤◌}
use Rattle.path_stored.proofs.Spans.{Tabling}
use Rattle.path_stored.proofs.counts.tables_of_few.Given as goal

abbrev pub invariant-loop-j : goal.invariant-loop-j
invariant-loop-j l = (l.from ≤ l.j) × (l.j ≤ l.to) × Tabling l.kinds l.from l.j l.sum
