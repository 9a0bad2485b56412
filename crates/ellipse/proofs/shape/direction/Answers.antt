-- `ellipse::direction` meets its contract: what each call ensures, put together in the definition's order. Assumes nothing.
use mathlib.Core.Path.{◌∙◌}
use Rattle.ellipse.specs.Shape.{direction_on}
use Rattle.ellipse.proofs.shape.direction.Goals as goal

pub returns : goal.returns
unfolding direction_on
returns c =
    c.normalize.ensures
    ∙ rw (c.slope.ensures, c.turn_of-turn.ensures, c.sin_cos-angle.ensures.0, c.sin_cos-angle.ensures.1, c.number_of.ensures)
