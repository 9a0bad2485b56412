-- `table::searches::first_from` meets its contract. The invariant: all lengths before k are below the target. The measure is what is left of the lengths. Assumes nothing.
use Prim.Native.Nat.{◌-◌}
use lib.ListN.{length}
use Rattle.table.proofs.Search.{Bracket}
use Rattle.table.proofs.searches.first_from.Given as goal

abbrev pub invariant-loop-k : goal.invariant-loop-k
invariant-loop-k l = Bracket l.lengths l.target l.k (length l.lengths)

abbrev pub decreases-loop-k : goal.decreases-loop-k
decreases-loop-k l = length l.lengths - l.k
