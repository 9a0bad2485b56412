-- `decimal_digits::gathering::gather` meets its contract. Assumes nothing.
use Rattle.std.proofs.Common.{le_trans}
use Rattle.decimal_digits.proofs.Taking.{gathers-on}
use Rattle.decimal_digits.proofs.gathering.gather.Goals as goal

pub pass_rest-requires : goal.pass_rest-requires
pass_rest-requires c = (le_trans c.requires c.fill-taken.ensures.takes.onward, c.fill-taken.ensures.ended)

pub returns : goal.returns
returns c = gathers-on _ _ _ _ _ _ _ c.fill-taken.ensures.takes c.pass_rest.ensures
