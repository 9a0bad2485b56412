-- `math::add` meets its contract: the body is the definition, operation by operation. Assumes nothing.
use mathlib.Core.Path.{refl}
use Rattle.math.specs.Math.{add_of}
use Rattle.math.proofs.points.add.Goals as goal

pub returns : goal.returns
unfolding add_of
returns c = refl
