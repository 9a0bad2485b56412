-- `path_stored::counts::tables_between` meets its contract. The invariant: the sum is of the segments before `at`. The measure is the segments left. Assumes nothing.
use Prim.Native.Nat.{◌-◌, ◌≤◌}
use Rattle.path_segment.specs.Segments.{tables_of}
use Rattle.path_stored.specs.Counts.{Adds}
use Rattle.path_stored.proofs.counts.tables_between.Given as goal

abbrev pub invariant-loop-at : goal.invariant-loop-at
invariant-loop-at l = (l.from ≤ l.at) × (l.at ≤ l.to) × Adds tables_of l.kinds l.from l.at l.sum

abbrev pub decreases-loop-at : goal.decreases-loop-at
decreases-loop-at l = l.to - l.at
