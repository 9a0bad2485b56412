-- `ellipse::towards` meets its contract: the body is the definition, operation by operation. Assumes nothing.
use mathlib.Core.Path.{refl}
use Rattle.ellipse.specs.Ends.{towards_of}
use Rattle.ellipse.proofs.ends.towards.Goals as goal

pub returns : goal.returns
unfolding towards_of
returns c = refl
