-- The invariant: the numbers before i are in, and the rest of the row belongs past them (`Reading`). Assumes nothing.
use Rattle.std.proofs.Common.{ap, ◌∙◌, arith}
use Rattle.replay_records.specs.Records.{float_of}
use Rattle.replay_records.proofs.Rows.{reading-start, reading-more, reading-done}
use Rattle.replay_records.proofs.numbers.read_numbers.Goals as goal

pub loop-x-init : goal.loop-x-init
loop-x-init c = reading-start _ _ _ _

pub loop-x-preserved : goal.loop-x-preserved
loop-x-preserved c =
    reading-more _ _ _ _ _ _ _ c.loop-x.invariant _ _ (omega (arith, c.loop-x-test.true, c.loop-x.invariant.size)) (c.float.ensures ∙ ap float_of c.pattern.ensures) c.onward-offset.ensures

pub returns : goal.returns
returns c = reading-done _ _ _ _ _ _ _ c.loop-x.invariant (omega (arith, c.loop-x-test.false, c.loop-x.invariant.size))
