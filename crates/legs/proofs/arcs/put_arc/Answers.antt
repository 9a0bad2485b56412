-- `legs::put_arc` meets its contract. The loop keeps that the legs before its point are stored, and where that point is. Assumes nothing.
use mathlib.Core.Path.{refl, ap, ◌∙◌}
use native.Mathlib.Omega.{arith}
use lib.ListN.{length}
use lib.Seq.{length-sets}
use Rattle.legs.specs.Segments.{arc_legs}
use Rattle.legs.proofs.ArcLegs.{arc-step, arc-past, arc-done}
use Rattle.legs.proofs.arcs.put_arc.Goals as goal

pub returns-then-out-at : goal.returns-then-out-at
returns-then-out-at c = arc-past _ _ _ _ c.if-out-at.true

pub loop-i-init : goal.loop-i-init
unfolding arc_legs
loop-i-init c = (omega arith, (c.arc_point-from.ensures, refl))

pub loop-i-preserved : goal.loop-i-preserved
loop-i-preserved c =
    (omega arith, (c.arc_point-to.ensures, arc-step _ _ _ _ _ _ c.loop-i.invariant.1.0 c.arc_point-to.ensures c.loop-i.invariant.1.1 c.put_leg.ensures))

pub shape_of-out : goal.shape_of-out
shape_of-out c = ap length c.loop-i.invariant.1.1 ∙ simp length-sets

pub returns : goal.returns
returns c = arc-done _ _ _ _ _ _ c.loop-i.invariant.0 c.loop-i-test.false c.loop-i.invariant.1.1
