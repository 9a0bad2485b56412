-- The loop keeps `Measuring`. Assumes nothing.
use Rattle.std.proofs.Common.{refl, sym, ◌∙◌}
use Rattle.floats.specs.Floats.{zero_f}
use Rattle.polyline.proofs.Measuring.{measuring-start, measuring-more, measuring-stop, measuring-done}
use Rattle.polyline.proofs.outline.measure.Goals as goal

pub loop-i-init : goal.loop-i-init
unfolding zero_f
loop-i-init c = measuring-start _ _ refl

pub returns-then-not-is_finite : goal.returns-then-not-is_finite
returns-then-not-is_finite c =
    measuring-stop _ _ _ c.loop-i.invariant c.loop-i.auto.i c.loop-i-test.true _ c.leg-total.ensures (sym c.is_finite.ensures ∙ c.if-not-is_finite.true)

pub loop-i-preserved : goal.loop-i-preserved
loop-i-preserved c =
    measuring-more _ _ _ c.loop-i.invariant c.loop-i.auto.i c.loop-i-test.true _ c.leg-total.ensures (sym c.is_finite.ensures ∙ c.if-not-is_finite.false)

pub returns : goal.returns
returns c = measuring-done _ _ _ c.loop-i.invariant c.loop-i.auto.i c.loop-i-test.false
