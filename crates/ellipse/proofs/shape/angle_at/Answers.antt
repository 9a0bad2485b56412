-- `ellipse::angle_at` meets its contract: the share is clamped before it is multiplied. Assumes nothing.
use Rattle.ellipse.proofs.shape.angle_at.Goals as goal

pub returns : goal.returns
returns c =
    rw (c.clamp01.ensures, c.number_of.ensures)
