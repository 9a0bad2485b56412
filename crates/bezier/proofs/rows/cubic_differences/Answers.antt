-- The invariants: the samples before i are in (`Sample`), then the differences before k, but for the last place (`Difference`). The
-- measures are the places left. Assumes nothing.
use native.Mathlib.Omega.{arith}
use mathlib.Core.Path.{refl, ap, ◌∙◌}
use Rattle.bezier.specs.Rows.{cubic_coordinate}
use Rattle.lengths.proofs.Lists.{passing-start, passing-more}
use Rattle.bezier.proofs.Differences.{difference-of}
use Rattle.bezier.proofs.rows.cubic_differences.Goals as goal

pub loop-i-init : goal.loop-i-init
loop-i-init c = passing-start refl

pub loop-i-preserved : goal.loop-i-preserved
loop-i-preserved c =
    passing-more c.loop-i.invariant (omega (arith, c.loop-i-test.true)) _
    (c.cubic_coordinate.ensures ∙ ap (cubic_coordinate _ _ _ _) c.sample_mark.ensures)

pub loop-k-init : goal.loop-k-init
loop-k-init c = passing-start refl

pub loop-k-preserved : goal.loop-k-preserved
loop-k-preserved c =
    passing-more c.loop-k.invariant c.loop-k-test.true _
    (λ h. difference-of (cubic_coordinate _ _ _ _) c.loop-i.samples c.loop-k.k c.loop-i.invariant.done (omega (arith, h, c.loop-i-test.false)))

pub returns : goal.returns
returns c = λ k h. c.loop-k.invariant.done k (omega (arith, h, c.loop-k-test.false)) h
