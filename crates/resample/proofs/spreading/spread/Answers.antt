-- The first point is put, then the loop keeps `Spreading`: the rows so far, and a stretch that is not past the next target's. Assumes nothing.
use Rattle.resample.proofs.Stretches.{spreading-start, first-hidden, spreading-reached, spreading-more, spreading-done, pick-point}
use mathlib.Core.Path.{◌∙◌}
use native.Mathlib.Omega.{arith}
use Rattle.floats.specs.Floats.{zero_f}
use Rattle.resample.proofs.spreading.spread.Goals as goal

pub loop-i-init : goal.loop-i-init
unfolding zero_f
loop-i-init c =
    spreading-start _ _ _ c.args.out.now _ _ c.requires c.point_at.ensures c.put_point.ensures

pub advance-stretch-requires : goal.advance-stretch-requires
advance-stretch-requires c = spreading-reached _ _ _ _ c.loop-i.out c.loop-i.stretch c.loop-i.i c.loop-i.invariant c.loop-i.auto.i c.loop-i.auto.i-end _ c.target_at-at.ensures

pub between-requires : goal.between-requires
between-requires c = pick-point _ _ _ (omega (arith, c.loop-i.invariant.asked.two)) c.advance-stretch.ensures

pub loop-i-preserved : goal.loop-i-preserved
loop-i-preserved c =
    spreading-more _ _ _ _ c.loop-i.out c.loop-i.stretch c.loop-i.i c.loop-i.invariant c.loop-i.auto.i c.loop-i.auto.i-end _ _ _ _ c.loop-i-test.true
    c.target_at-at.ensures c.advance-stretch.ensures c.between.ensures c.put_point-in-loop-i.ensures

pub returns : goal.returns
returns c =
    spreading-done _ _ _ _ c.loop-i.out c.loop-i.stretch c.loop-i.i c.loop-i.invariant c.loop-i.auto.i c.loop-i.auto.i-end _ _ c.loop-i-test.false
    c.point_at-2.ensures c.put_point-2.ensures ∙ first-hidden _ _ _ c.args.out.now _ _ c.requires c.point_at.ensures
    c.put_point.ensures
