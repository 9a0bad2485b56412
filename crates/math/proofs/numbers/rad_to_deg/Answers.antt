-- `math::rad_to_deg` meets its contract: the body is the definition, operation by operation. Assumes nothing.
use mathlib.Core.Path.{refl}
use Rattle.math.specs.Math.{rad_to_deg_of, pi_f, half_turn_f}
use Rattle.math.proofs.numbers.rad_to_deg.Goals as goal

pub returns : goal.returns
unfolding rad_to_deg_of pi_f half_turn_f
returns c = refl
