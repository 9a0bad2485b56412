-- `path_place::lookups::raw_in` meets its contract: the part that it lends is the table's 32 entries. Assumes nothing.
use Rattle.path_place.specs.Places.{raw_in}
use Rattle.path_place.proofs.Tables.{part-size, there-sound}
use Rattle.path_place.proofs.lookups.raw_in.Goals as goal

pub raw_parameter_in-requires : goal.raw_parameter_in-requires
raw_parameter_in-requires c = rw (part-size c.args.first) (there-sound c.requires)

pub returns : goal.returns
unfolding raw_in
returns c = rw (part-size c.args.first) at c.raw_parameter_in.ensures
