-- `math::dot` meets its contract: the body is the definition, operation by operation. Assumes nothing.
use mathlib.Core.Path.{refl}
use Rattle.math.specs.Math.{dot_of}
use Rattle.math.proofs.points.dot.Goals as goal

pub returns : goal.returns
unfolding dot_of
returns c = refl
