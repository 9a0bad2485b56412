-- `math::length` meets its contract: it is the length of the coordinates. Assumes nothing.
use borrow.Author.Rules.{rules}
use Rattle.math.specs.Math.{length_of}
use Rattle.math.proofs.points.length.Goals as goal

pub returns : goal.returns
unfolding length_of
returns c = c.length.ensures
