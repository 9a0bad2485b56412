-- `math::lerp_point` meets its contract: what each of the two interpolations ensures. Assumes nothing.
use borrow.Author.Rules.{rules}
use Rattle.math.proofs.Pointwise.{both}
use Rattle.math.specs.Math.{lerp_point_of}
use Rattle.math.proofs.points.lerp_point.Goals as goal

pub returns : goal.returns
unfolding lerp_point_of
returns c = both c.lerp.ensures c.lerp-2.ensures
