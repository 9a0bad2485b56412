-- `path_append::tables_used` meets its contract: the count is the same in the part. Assumes nothing.
use Rattle.path_append.proofs.InUse.{before-take}
use Rattle.path_stored.proofs.Counting.{tables-at-most}
use Rattle.path_segment.specs.Segments.{tables_of}
use lib.Seq.{length-take-le}
use lib.ListN.{take}
use native.Mathlib.Omega.{arith}
use mathlib.Core.Path.{sym, ap, ◌∙◌}
use Prim.Native.Nat.{◌*◌}
use Rattle.path_append.proofs.used.tables_used.Goals as goal

pub slice_bounds-tables_before-end : goal.slice_bounds-tables_before-end
slice_bounds-tables_before-end c = sym (length-take-le _ _ c.requires.count_in_bounds)

pub tables_before-requires : goal.tables_before-requires
tables_before-requires c = let e = length-take-le c.args.count c.args.kinds.now c.requires.count_in_bounds in record { kinds_len_bound = omega arith; i_in_bounds = omega arith }

pub overflow_mul-result : goal.overflow_mul-result
overflow_mul-result c = omega (arith, tables-at-most (take c.args.count c.args.kinds.now) c.args.count, c.tables_before.ensures, c.requires.count_le_most_segments)

pub returns : goal.returns
returns c = ap (λ n. 33 * n) (c.tables_before.ensures ∙ before-take tables_of c.args.kinds.now c.args.count)
