-- `path_stored::counts::one_table` meets its contract: a kind has one table or none. Assumes nothing.
use mathlib.Core.Path.{sym, ◌∙◌}
use Rattle.path_segment.proofs.Widths.{one_table, none-table}
use Rattle.path_stored.proofs.counts.one_table.Goals as goal

pub returns-then-has_table : goal.returns-then-has_table
returns-then-has_table c = sym (one_table _ (sym c.has_table.ensures ∙ c.if-has_table.true))

pub returns-else-has_table : goal.returns-else-has_table
returns-else-has_table c = sym (none-table _ (sym c.has_table.ensures ∙ c.if-has_table.false))
