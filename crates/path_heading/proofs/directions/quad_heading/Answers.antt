-- `path_heading::directions::quad_heading` meets its contract: the part that it lends is the table's 32 entries. Assumes nothing.
use borrow.Author.Rules.{rules}
use Rattle.path_place.specs.Places.{raw_in}
use Rattle.path_place.proofs.Tables.{part-size, there-sound}
use Rattle.path_heading.proofs.directions.quad_heading.Goals as goal

pub quad_direction-requires : goal.quad_direction-requires
quad_direction-requires c = rw (part-size c.args.first) (there-sound c.requires)

pub returns : goal.returns
unfolding raw_in
returns c = rw (part-size c.args.first) at c.quad_direction.ensures
