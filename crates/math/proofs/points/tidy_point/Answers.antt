-- `math::tidy_point` meets its contract: `tidy` keeps each coordinate. Assumes nothing.
use borrow.Author.Rules.{rules}
use Rattle.math.proofs.Pointwise.{both}
use Rattle.math.proofs.points.tidy_point.Goals as goal

pub returns : goal.returns
returns c = both c.tidy.ensures c.tidy-2.ensures
