-- `math::scale` meets its contract: the body is the definition, operation by operation. Assumes nothing.
use mathlib.Core.Path.{refl}
use Rattle.math.specs.Math.{scale_of}
use Rattle.math.proofs.points.scale.Goals as goal

pub returns : goal.returns
unfolding scale_of
returns c = refl
