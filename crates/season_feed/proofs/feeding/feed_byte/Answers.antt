-- `season_feed::feeding::feed_byte` meets its contract: a step, then what it completes. Assumes nothing.
use borrow.Author.Rules.{rules}
use mathlib.Core.List.{[], ◌∷◌, ◌++◌}
use Rattle.season_feed.proofs.Wholes.{steady, stepped-stands, fed-byte}
use Rattle.season_feed.proofs.feeding.feed_byte.Goals as goal

pub step-next-requires : goal.step-next-requires
step-next-requires c = steady c.requires.bytes c.requires.stands.done c.args.season.phase c.args.text.now c.requires.stands.standing c.requires.opened

pub settle-requires : goal.settle-requires
settle-requires c =
    record { bytes = c.requires.bytes ++ (c.args.byte ∷ []); stands = stepped-stands c.step-next.ensures c.requires.bytes c.requires.stands }

pub returns : goal.returns
returns c = fed-byte c.step-next.ensures c.settle.ensures
