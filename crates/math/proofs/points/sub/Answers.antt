-- `math::sub` meets its contract: the body is the definition, operation by operation. Assumes nothing.
use mathlib.Core.Path.{refl}
use Rattle.math.specs.Math.{sub_of}
use Rattle.math.proofs.points.sub.Goals as goal

pub returns : goal.returns
unfolding sub_of
returns c = refl
