-- `math::lerp` meets its contract: the body is the definition, operation by operation. Assumes nothing.
use mathlib.Core.Path.{refl}
use Rattle.math.specs.Math.{lerp_of}
use Rattle.math.proofs.numbers.lerp.Goals as goal

pub returns : goal.returns
unfolding lerp_of
returns c = refl
