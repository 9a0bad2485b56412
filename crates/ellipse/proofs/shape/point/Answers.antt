-- `ellipse::point` meets its contract: the turn is the rotation's. Assumes nothing.
use mathlib.Core.Path.{◌∙◌}
use Rattle.ellipse.specs.Shape.{point_on}
use Rattle.ellipse.proofs.shape.point.Goals as goal

pub returns : goal.returns
unfolding point_on
returns c = c.point_turned.ensures ∙ rw c.turn_of.ensures
