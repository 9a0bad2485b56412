-- `season_feed::feeding::feed_read` meets its contract: it is `feed` of those bytes. Assumes nothing.
use borrow.Author.Rules.{rules}
use mathlib.Core.Path.{sym}
use lib.Seq.{length-take-le}
use Rattle.season_feed.proofs.feeding.feed_read.Goals as goal

pub slice_bounds-feed-end : goal.slice_bounds-feed-end
slice_bounds-feed-end c = sym (length-take-le _ _ c.requires.1)

pub feed-requires : goal.feed-requires
feed-requires c = c.requires.0

pub returns : goal.returns
returns c = c.feed.ensures
