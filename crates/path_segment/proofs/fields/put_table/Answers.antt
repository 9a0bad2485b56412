-- `path_segment::fields::put_table` meets its contract. The invariant: the entries before k are stored. Assumes nothing.
use Rattle.path_segment.proofs.Runs.{put_next, put_last}
use native.Mathlib.Omega.{arith}
use mathlib.Core.Path.{◌≡◌}
use Rattle.path_segment.proofs.fields.put_table.Goals as goal

pub loop-k-preserved : goal.loop-k-preserved
loop-k-preserved c =
    (c.loop-k.invariant.0, put_next c.args.table.entries c.args.tables.now c.args.at c.loop-k.k c.loop-k.tables _ (omega arith) c.loop-k.invariant.1 c.tidy.ensures)

pub returns : goal.returns
returns c =
    let k : c.loop-k.k ≡ 32 = omega arith in
    put_last c.args.table.entries c.args.tables.now c.args.at 32 c.loop-k.tables _ _ c.loop-k.invariant.0 (rw k at c.loop-k.invariant.1) c.tidy-2.ensures
