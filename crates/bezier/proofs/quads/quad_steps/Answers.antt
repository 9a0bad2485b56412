-- The invariant: in both rows the differences before k are in (`Difference`). Their lengths are the steps (`steps-are`). The measure is
-- the places left. Assumes nothing.
use native.Mathlib.Omega.{arith}
use mathlib.Core.Path.{refl, ap, ◌∙◌}
use mathlib.Core.List.{List}
use lib.ListN.{length, get_or}
use lib.Ieee.{Float, nan}
use Rattle.lengths.proofs.Lists.{lengths-count, lengths-at, passing-start}
use Rattle.math.specs.Math.{lerp_point_of}
use Rattle.table_samples.specs.Samples.{sample_at}
use Rattle.table_samples.proofs.Steps.{steps-are}
use Rattle.bezier.specs.Quads.{quad_sample_of}
use Rattle.bezier.specs.Rows.{quad_coordinate}
use Rattle.bezier.proofs.Differences.{row_more}
use Rattle.bezier.proofs.quads.quad_steps.Goals as goal

pub loop-k-init : goal.loop-k-init
loop-k-init c = (passing-start refl, passing-start refl)

pub loop-k-preserved : goal.loop-k-preserved
loop-k-preserved c = (
  row_more (quad_coordinate _ _ _) c.loop-k.invariant.0 c.loop-k-test.true _ _
      (c.quad_coordinate.ensures ∙ ap (quad_coordinate _ _ _) c.sample_mark-next.ensures)
      (c.quad_coordinate-in-loop-k.ensures ∙ ap (quad_coordinate _ _ _) c.sample_mark-here.ensures),
  row_more (quad_coordinate _ _ _) c.loop-k.invariant.1 c.loop-k-test.true _ _
      (c.quad_coordinate-in-loop-k-2.ensures ∙ ap (quad_coordinate _ _ _) c.sample_mark-next.ensures)
      (c.quad_coordinate-in-loop-k-3.ensures ∙ ap (quad_coordinate _ _ _) c.sample_mark-here.ensures),
)

pub returns : goal.returns
unfolding sample_at quad_sample_of lerp_point_of
returns c =
    steps-are (quad_sample_of _ _ _) c.loop-k.x c.loop-k.y _ 31 (ap length c.lengths.ensures ∙ lengths-count 31 _ _)
    (λ k h. c.loop-k.invariant.0.done k (omega (arith, h, c.loop-k-test.false))) (λ k h. c.loop-k.invariant.1.done k (omega (arith, h, c.loop-k-test.false)))
    (λ k h. ap (λ (z : List Float). get_or z k nan) c.lengths.ensures ∙ lengths-at 31 _ _ k h)
