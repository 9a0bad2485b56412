-- Each place of a judged row gets its length or has it already (`Settling`). Assumes nothing.
use Rattle.floats.specs.Floats.{zero_f}
use Rattle.lengths.proofs.Lists.{measured, settling-put, settling-keep}
use Rattle.lengths.proofs.rows.settle.Goals as goal
use Rattle.lengths.proofs.rows.settle.Goals.{then-out-j, else-out-j}

pub loop-j-preserved : goal.loop-j-preserved
unfolding zero_f
loop-j-preserved g c =
    let i = c.loop-j.invariant in
    let t = c.loop-j-test.true in
    elim c.if-out-j.branch [ then-out-j w ↦ settling-put i t _ w.length.ensures w.out-is | else-out-j w ↦ settling-keep i t w.if-out-j.false w.out-is ]

pub returns : goal.returns
returns g c = measured _ _ c.loop-j.invariant.measured c.loop-j-test.false
