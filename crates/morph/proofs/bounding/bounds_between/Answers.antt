-- The loop keeps the bounds of the points so far. Assumes nothing.
use Rattle.std.proofs.Common.{ap, ◌∙◌}
use Rattle.morph.specs.Bounds.{point_bounds, bounds_of}
use Rattle.morph.proofs.Widening.{widened_once}
use Rattle.morph.proofs.bounding.bounds_between.Goals as goal

pub loop-i-init : goal.loop-i-init
unfolding bounds_of
loop-i-init c = c.around-bounds.ensures ∙ ap point_bounds c.between_at.ensures

pub loop-i-preserved : goal.loop-i-preserved
loop-i-preserved c = rw (c.widen-bounds.ensures, c.between_at-in-loop-i.ensures, c.loop-i.invariant) (widened_once _ _ _ _ c.loop-i.auto.i)
