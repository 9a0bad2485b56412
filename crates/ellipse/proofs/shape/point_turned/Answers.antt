-- `ellipse::point_turned` meets its contract: what each call ensures, put together in the definition's order. Assumes nothing.
use Rattle.ellipse.specs.Shape.{point_turned}
use Rattle.ellipse.proofs.shape.point_turned.Goals as goal

pub returns : goal.returns
unfolding point_turned
returns c =
    rw (c.on_ellipse.ensures, c.sin_cos-angle.ensures.0, c.sin_cos-angle.ensures.1, c.angle_at.ensures)
