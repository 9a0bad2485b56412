-- `legs::put_path` meets its contract. The loop keeps that the legs of the segments before its place are stored and counted. Assumes nothing.
use mathlib.Core.Path.{ap, ◌∙◌}
use native.Mathlib.Omega.{arith}
use lib.ListN.{length}
use lib.Seq.{length-sets}
use Rattle.path_stored.proofs.Counting.{before-zero}
use Rattle.path_stored.specs.Paths.{held}
use Rattle.path_stored.proofs.Reading.{record-fielded, segment-fields}
use Rattle.legs.proofs.Walks.{walked_none, walked-few, walked_more, walked_all, room-more, told-few}
use Rattle.legs.proofs.paths.put_path.Goals as goal

pub loop-kind-init : goal.loop-kind-init
loop-kind-init c = walked_none _ _ _ _ (before-zero _ _)

pub segment_at-requires : goal.segment_at-requires
segment_at-requires c =
    record {
      kind_bound = (record-fielded (held c.args.path.buffers) c.args.path.stored).known c.loop-kind.kind-index c.loop-kind-test.true;
      kind_in_bounds = omega (arith, segment-fields (record-fielded (held c.args.path.buffers) c.args.path.stored) c.loop-kind.kind-index c.loop-kind-test.true, c.loop-kind.invariant.here);
    }

pub overflow_mul-legs : goal.overflow_mul-legs
overflow_mul-legs c = omega (arith, walked-few c.loop-kind.invariant, (record-fielded (held c.args.path.buffers) c.args.path.stored).few, c.loop-kind-test.true)

pub put_segment-told-requires : goal.put_segment-told-requires
put_segment-told-requires c = room-more c.loop-kind.invariant c.loop-kind-test.true (record-fielded (held c.args.path.buffers) c.args.path.stored).few _

pub overflow_add-legs : goal.overflow_add-legs
overflow_add-legs c =
    omega (arith, told-few c.put_segment-told.ensures, walked-few c.loop-kind.invariant, (record-fielded (held c.args.path.buffers) c.args.path.stored).few, c.loop-kind-test.true)

pub overflow_add-at : goal.overflow_add-at
overflow_add-at c =
    omega (arith, segment-fields (record-fielded (held c.args.path.buffers) c.args.path.stored) c.loop-kind.kind-index c.loop-kind-test.true, c.loop-kind.invariant.here, c.width-at.ensures)

pub loop-kind-preserved : goal.loop-kind-preserved
loop-kind-preserved c =
    walked_more _ _ _ c.loop-kind.invariant c.loop-kind-test.true c.width-at.ensures (rw c.segment_at.ensures at c.put_segment-told.ensures)

pub shape_of-out : goal.shape_of-out
shape_of-out c = ap length c.loop-kind.invariant.stored ∙ simp length-sets

pub returns : goal.returns
returns c = walked_all c.loop-kind.invariant c.loop-kind-test.false
