-- `math::deg_to_rad` meets its contract: the body is the definition, operation by operation. Assumes nothing.
use mathlib.Core.Path.{refl}
use Rattle.math.specs.Math.{deg_to_rad_of, pi_f, half_turn_f}
use Rattle.math.proofs.numbers.deg_to_rad.Goals as goal

pub returns : goal.returns
unfolding deg_to_rad_of pi_f half_turn_f
returns c = refl
