-- `table::table_of` meets its contract. The invariant: the entries up to k are the running sums of the steps, and the total is the last of them.
-- Assumes nothing.
use Rattle.table.proofs.Sums.{Summing}
use Rattle.table.proofs.tables.table_of.Given as goal

abbrev pub invariant-loop-k : goal.invariant-loop-k
invariant-loop-k l = Summing l.steps l.entries l.total l.k
