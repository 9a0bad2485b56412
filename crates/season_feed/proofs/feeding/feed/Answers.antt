-- `season_feed::feeding::feed` meets its contract. Assumes nothing.
use mathlib.Core.Path.{sym, ◌∙◌}
use Rattle.season_feed.proofs.Tallies.{tally-rows}
use Rattle.season_feed.proofs.Wholes.{fed-none, ready-fed, fed-next, fed-all}
use Rattle.season_feed.proofs.feeding.feed.Goals as goal

pub loop-byte-init : goal.loop-byte-init
loop-byte-init c = (c.requires, fed-none c.requires)

pub feed_byte-state-requires : goal.feed_byte-state-requires
feed_byte-state-requires c = c.loop-byte.invariant.0

pub loop-byte-preserved : goal.loop-byte-preserved
loop-byte-preserved c =
    (ready-fed c.loop-byte.invariant.0 c.feed_byte-state.ensures, fed-next _ _ c.loop-byte-test.true c.loop-byte.invariant.1 c.feed_byte-state.ensures)

pub shape_of-counts : goal.shape_of-counts
shape_of-counts c = tally-rows c.loop-byte.invariant.0.stands.tally ∙ sym (tally-rows c.requires.stands.tally)

pub returns : goal.returns
returns c = fed-all _ _ c.loop-byte-test.false c.loop-byte.invariant.1
