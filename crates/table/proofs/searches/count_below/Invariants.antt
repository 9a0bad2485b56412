-- `table::searches::count_below` meets its contract. The invariant: the count is of those before the next length that are below the target, and they are the first.
-- Assumes nothing.
use Rattle.table.proofs.Search.{Counting}
use Rattle.table.proofs.searches.count_below.Given as goal

abbrev pub invariant-loop-own : goal.invariant-loop-own
invariant-loop-own l = Counting l.lengths l.target l.own-index l.count
