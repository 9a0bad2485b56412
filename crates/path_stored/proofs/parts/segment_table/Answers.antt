-- `path_stored::parts::segment_table` meets its contract: its table is read where it stands. Assumes nothing.
use Rattle.path_stored.proofs.Reading.{segment-table}
use Rattle.path_stored.proofs.Counting.{tables-at-most}
use native.Mathlib.Omega.{arith}
use mathlib.Core.Path.{sym, ◌∙◌}
use Rattle.path_stored.proofs.parts.segment_table.Goals as goal

pub overflow_mul-n : goal.overflow_mul-n
overflow_mul-n c = omega (arith, tables-at-most c.args.kinds.now c.args.i, c.tables_before-n.ensures, c.requires.tabled.few, c.requires.i_in_bounds)

pub table_at-requires : goal.table_at-requires
table_at-requires c = omega (arith, segment-table c.requires.tabled c.args.i c.requires.i_in_bounds (sym c.has_table.ensures ∙ c.if-has_table.true), c.tables_before-n.ensures)
