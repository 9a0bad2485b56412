-- `path_stored::check_path` meets its contract. Assumes nothing.
use Rattle.path_stored.proofs.Counting.{tables-at-most}
use native.Mathlib.Omega.{arith}
use lib.ListN.{length}
use Rattle.path_stored.proofs.checking.check_path.Goals as goal

pub overflow_mul-n : goal.overflow_mul-n
overflow_mul-n c = let k = c.args.path.kinds.now in omega (arith, tables-at-most k (length k), c.tables_before-n.ensures)

pub tables_are_sound-requires : goal.tables_are_sound-requires
tables_are_sound-requires c =
    let k = c.args.path.kinds.now in
    record { n_le_most_segments = omega (arith, tables-at-most k (length k), c.tables_before-n.ensures); tables_len = c.if-path-n.false }
