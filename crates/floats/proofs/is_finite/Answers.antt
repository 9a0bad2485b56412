-- `floats::is_finite` meets its contract, by `self-gone`. Assumes nothing.
use Rattle.floats.specs.Floats.{zero_f}
use Rattle.floats.proofs.Finite.{self-gone}
use Rattle.floats.proofs.is_finite.Goals as goal

pub returns : goal.returns
unfolding zero_f
returns c = self-gone c.args.x
