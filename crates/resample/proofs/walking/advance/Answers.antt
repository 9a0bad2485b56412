-- The loop keeps `Walking`: a stretch at or before the one that is picked. The measure is the points left. Assumes nothing.
use Rattle.resample.proofs.Walk.{walk_start, walk_more, walk-stop, walk-done}
use Rattle.resample.proofs.walking.advance.Goals as goal

pub loop-upper-init : goal.loop-upper-init
loop-upper-init c = walk_start _ _ _ c.requires

pub loop-upper-preserved : goal.loop-upper-preserved
loop-upper-preserved c = walk_more _ _ _ _ _ c.loop-upper.invariant c.if-last-upper.false c.if-high-target.true _ c.leg-high.ensures

pub returns-then-last-upper : goal.returns-then-last-upper
returns-then-last-upper c = walk-done _ _ _ _ _ c.loop-upper.invariant c.if-last-upper.true

pub returns-else-high-target : goal.returns-else-high-target
returns-else-high-target c = walk-stop _ _ _ _ _ c.loop-upper.invariant c.if-high-target.false
