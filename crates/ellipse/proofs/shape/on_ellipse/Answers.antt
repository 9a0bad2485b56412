-- `ellipse::on_ellipse` meets its contract: the body is the definition, operation by operation. Assumes nothing.
use mathlib.Core.Path.{refl}
use Rattle.ellipse.specs.Shape.{on_ellipse}
use Rattle.ellipse.proofs.shape.on_ellipse.Goals as goal

pub returns : goal.returns
unfolding on_ellipse
returns c = refl
