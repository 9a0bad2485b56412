-- `ellipse::primed` meets its contract: the body is the definition, operation by operation. Assumes nothing.
use mathlib.Core.Path.{refl}
use Rattle.ellipse.specs.Ends.{primed_of, half_f}
use Rattle.ellipse.proofs.ends.primed.Goals as goal

pub returns : goal.returns
unfolding primed_of half_f
returns c = refl
