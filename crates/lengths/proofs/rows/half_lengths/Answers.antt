-- At the end the row is judged (`passing-row`), or done (`measured`). Assumes nothing.
use Rattle.std.proofs.Common.{rules, ℕ, zero-add, subst}
use lib.ListN.{get_or}
use lib.Ieee.{nan}
use Rattle.floats.specs.Floats.{zero_f}
use Rattle.lengths.specs.Length.{Judged}
use Rattle.lengths.proofs.Lists.{measured, passing-row, flagged-start, flagged-on}
use Rattle.lengths.proofs.rows.half_lengths.Goals as goal

pub loop-own-init : goal.loop-own-init
loop-own-init c = flagged-start (search rules)

pub loop-own-preserved : goal.loop-own-preserved
unfolding zero_f
loop-own-preserved c =
    let t = c.loop-own-test.true in
    let k = c.loop-own.own-index in
    flagged-on c.loop-own.invariant t
    (subst (λ (j : ℕ). Judged (get_or c.args.x.now j nan) (get_or c.args.y.now j nan) (get_or c.judged_run-known.result k nan)) (zero-add k)
    (c.judged_run-known.ensures k t))

pub settle-requires : goal.settle-requires
settle-requires c = (search rules, (search rules, passing-row c.loop-own.invariant.judged c.loop-own-test.false))

pub returns-else-unsettled : goal.returns-else-unsettled
returns-else-unsettled c = measured _ _ (c.loop-own.invariant.settled c.if-unsettled.false) c.loop-own-test.false
