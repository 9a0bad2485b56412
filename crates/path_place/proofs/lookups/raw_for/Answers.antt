-- `path_place::lookups::raw_for` meets its contract: the lookup in a single 0 gives the clamped progress. Assumes nothing.
use mathlib.Core.Path.{sym, ◌∙◌}
use Rattle.floats.specs.Floats.{zero_f}
use Rattle.table.proofs.Single.{single-sound, single-raw}
use Rattle.path_place.specs.Places.{raw_for}
use Rattle.path_place.proofs.lookups.raw_for.Goals as goal

pub raw_parameter_in-requires : goal.raw_parameter_in-requires
unfolding zero_f
raw_parameter_in-requires c = single-sound

pub returns : goal.returns
unfolding raw_for zero_f
returns c = rw (sym c.has_table.ensures ∙ c.if-has_table.false) (c.raw_parameter_in.ensures ∙ single-raw _)
