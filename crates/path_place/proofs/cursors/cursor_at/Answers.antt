-- `path_place::cursors::cursor_at` meets its contract: no path has more than 65,536 tables. Assumes nothing.
use native.Mathlib.Omega.{arith}
use Rattle.path_stored.proofs.Counting.{tables-at-most}
use Rattle.path_place.proofs.cursors.cursor_at.Goals as goal

pub overflow_mul-result : goal.overflow_mul-result
overflow_mul-result c = omega (arith, c.tables_before.ensures, tables-at-most c.args.kinds.now c.args.segment, c.requires.kinds_len_bound, c.requires.segment_in_bounds)
