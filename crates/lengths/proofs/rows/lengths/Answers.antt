-- The runs start at 0 and 15. At the end the row is judged (`passing-row`), or done (`measured`). Assumes nothing.
use Rattle.std.proofs.Common.{rules, arith, ◌≡◌, ℕ, zero, suc, ◌*◌, ◌<◌, [], ◌∷◌, slice_index_or, refl}
use Rattle.floats.specs.Floats.{zero_f}
use Rattle.lengths.proofs.Lists.{measured, passing-row, flagged-start, flagged-less, flagged-more}
use Rattle.lengths.proofs.rows.lengths.Goals as goal

start-at : (i : ℕ) → i < 2 → slice_index_or {A = ℕ} (0 ∷ 15 ∷ []) i 0 ≡ 15 * i
start-at zero h = refl
start-at (suc zero) h = refl
start-at (suc (suc i)) h = absurd (omega arith)

pub loop-at-init : goal.loop-at-init
loop-at-init c = flagged-start c.told-out

pub loop-k-init : goal.loop-k-init
loop-k-init c = flagged-less c.loop-at.invariant _ (omega (arith, start-at c.loop-at.at-index c.loop-at-test.true))

pub loop-k-preserved : goal.loop-k-preserved
unfolding zero_f
loop-k-preserved c =
    let t = c.loop-k-test.true in
    let start = start-at c.loop-at.at-index c.loop-at-test.true in
    flagged-less (flagged-more c.loop-k.invariant (omega arith) _ (c.judged_run-known.ensures _ t)) _ (omega arith)

pub loop-at-preserved : goal.loop-at-preserved
loop-at-preserved c = flagged-less c.loop-k.invariant _ (omega (arith, start-at c.loop-at.at-index c.loop-at-test.true))

pub settle-requires : goal.settle-requires
settle-requires c = (search rules, (search rules, passing-row c.loop-at.invariant.judged (omega arith)))

pub returns-else-unsettled : goal.returns-else-unsettled
returns-else-unsettled c = measured _ _ (c.loop-at.invariant.settled c.if-unsettled.false) (omega arith)
