-- `table_of` sums the steps. Assumes nothing.
use Rattle.table_samples.proofs.Steps.{table_is}
use Rattle.bezier.proofs.cubics.cubic_table.Goals as goal

pub returns : goal.returns
returns c = table_is _ _ _ c.cubic_steps.ensures c.table_of.ensures.entries c.table_of.ensures.total
