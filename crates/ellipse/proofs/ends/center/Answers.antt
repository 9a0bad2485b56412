-- `ellipse::center` meets its contract: the body is the definition, operation by operation. Assumes nothing.
use mathlib.Core.Path.{refl}
use Rattle.ellipse.specs.Ends.{center_of, half_f}
use Rattle.ellipse.proofs.ends.center.Goals as goal

pub returns : goal.returns
unfolding center_of half_f
returns c = refl
