-- `path_stored::counts::fields_of_few` meets its contract. The invariant: the counts are of the segments before j. The measure is the segments left. Assumes nothing.
use Prim.Native.Nat.{◌≤◌}
use Rattle.path_stored.proofs.Spans.{FieldCounts}
use Rattle.path_stored.proofs.counts.fields_of_few.Given as goal

abbrev pub invariant-loop-j : goal.invariant-loop-j
invariant-loop-j l = (l.from ≤ l.j) × (l.j ≤ l.to) × FieldCounts l.kinds l.from l.j l.from1 l.from2 l.from3 l.from5
