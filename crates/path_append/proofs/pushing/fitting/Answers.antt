-- `path_append::fitting` meets its contract. Assumes nothing.
use Rattle.path_append.proofs.InUse.{numbers-bound, tables-bound}
use Rattle.path_segment.proofs.Widths.{width-most, tables-most}
use native.Mathlib.Omega.{arith}
use Rattle.path_append.proofs.pushing.fitting.Goals as goal

pub overflow_add-n : goal.overflow_add-n
overflow_add-n c =
    omega (arith, numbers-bound c.args.path.kinds.now c.args.count, width-most c.kind-own.result, c.numbers_used.ensures, c.width.ensures, c.requires.count_lt_most_segments)

pub overflow_add-m : goal.overflow_add-m
overflow_add-m c =
    omega (arith, tables-bound c.args.path.kinds.now c.args.count, tables-most c.kind-own.result, c.tables_used.ensures, c.table_width.ensures, c.requires.count_lt_most_segments)
