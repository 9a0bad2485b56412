-- `ellipse::middle` meets its contract: the body is the definition, operation by operation. Assumes nothing.
use mathlib.Core.Path.{refl}
use Rattle.ellipse.specs.Ends.{middle_of}
use Rattle.ellipse.proofs.ends.middle.Goals as goal

pub returns : goal.returns
unfolding middle_of
returns c = refl
