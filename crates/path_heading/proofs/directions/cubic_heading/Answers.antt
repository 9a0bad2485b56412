-- `path_heading::directions::cubic_heading` meets its contract: the part that it lends is the table's 32 entries. Assumes nothing.
use borrow.Author.Rules.{rules}
use Rattle.path_place.specs.Places.{raw_in}
use Rattle.path_place.proofs.Tables.{part-size, there-sound}
use Rattle.path_heading.proofs.directions.cubic_heading.Goals as goal

pub cubic_direction-requires : goal.cubic_direction-requires
cubic_direction-requires c = rw (part-size c.args.first) (there-sound c.requires)

pub returns : goal.returns
unfolding raw_in
returns c = rw (part-size c.args.first) at c.cubic_direction.ensures
