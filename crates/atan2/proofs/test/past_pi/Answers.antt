-- The numbers are computed from the definition. Assumes nothing.
use mathlib.Core.Path.{refl}
use native.Mathlib.Omega.{arith}
use Rattle.trig_rule.specs.Sums.{factorial}
use Rattle.trig_rule.specs.Steps.{ladder}
use Rattle.atan2.proofs.test.past_pi.Goals as goal

pub returns : goal.returns
unfolding ladder factorial
returns c = record { cosine-up = refl; cosine-down = refl; sine-up = refl; sine-down = refl; bounded = omega arith }
