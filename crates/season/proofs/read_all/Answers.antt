-- Nothing was fed at the start, and what is fed next stands behind what was fed before.
use Rattle.season_feed.proofs.Wholes.{ready-fed, ready-fresh}
use Rattle.season.proofs.read_all.Goals as goal

pub loop-init : goal.loop-init
loop-init g c = ready-fresh c.start-state.ensures c.requires.0 c.requires.1

pub loop-preserved : goal.loop-preserved
loop-preserved g c = ready-fed c.loop.invariant c.feed_read-state.ensures
