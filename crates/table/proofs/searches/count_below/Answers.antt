-- `table::searches::count_below` meets its contract. The invariant: the count is of those before the next length that are below the target, and they are the first.
-- Assumes nothing.
use Rattle.table.proofs.Search.{counting_more, counting-done}
use Rattle.table.proofs.searches.count_below.Goals as goal

pub loop-own-preserved : goal.loop-own-preserved
loop-own-preserved c = counting_more c.requires.0 c.loop-own.invariant c.loop-own-test.true _ c.one_below-count.ensures

pub returns : goal.returns
returns c = counting-done c.loop-own.invariant c.loop-own-test.false
