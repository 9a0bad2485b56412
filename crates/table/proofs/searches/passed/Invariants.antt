-- `table::searches::passed` meets its contract. The invariant: base and the place `size` further on bracket the first length that is not below the target. The measure
-- is the size. Assumes nothing.
use Prim.Native.Nat.{◌+◌}
use Rattle.table.proofs.Search.{Bracket}
use Rattle.table.proofs.searches.passed.Given as goal

abbrev pub invariant-loop-size : goal.invariant-loop-size
invariant-loop-size l = Bracket l.lengths l.target l.base (l.base + l.size)

abbrev pub decreases-loop-size : goal.decreases-loop-size
decreases-loop-size l = l.size
