-- `ellipse::slope` meets its contract: the body is the definition, operation by operation. Assumes nothing.
use mathlib.Core.Path.{refl}
use Rattle.ellipse.specs.Shape.{slope_of}
use Rattle.ellipse.proofs.shape.slope.Goals as goal

pub returns : goal.returns
unfolding slope_of
returns c = refl
