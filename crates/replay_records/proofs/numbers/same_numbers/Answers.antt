-- The invariant: the numbers before i have their patterns, and the rest decides (`Agreeing`). Assumes nothing.
use Rattle.replay_records.proofs.Rows.{agreeing-start, agreeing-more, agreeing-not, agreeing-done}
use Rattle.replay_records.proofs.numbers.same_numbers.Goals as goal

pub loop-x-init : goal.loop-x-init
loop-x-init c = agreeing-start _ _ _ _

pub returns-then-bits-pattern : goal.returns-then-bits-pattern
returns-then-bits-pattern c =
    agreeing-not _ _ _ _ _ _ c.loop-x.invariant c.loop-x-test.true _ _ c.bits.ensures c.pattern.ensures c.if-bits-pattern.true

pub loop-x-preserved : goal.loop-x-preserved
loop-x-preserved c =
    agreeing-more _ _ _ _ _ _ c.loop-x.invariant c.loop-x-test.true _ _ c.bits.ensures c.pattern.ensures _ c.if-bits-pattern.false c.onward-offset.ensures

pub returns : goal.returns
returns c = agreeing-done _ _ _ _ _ _ c.loop-x.invariant c.loop-x-test.false
