-- `ellipse::size` meets its contract: the branch's test is the definition's. Assumes nothing.
use Rattle.floats.specs.Floats.{zero_f}
use Rattle.ellipse.specs.Ends.{size_of}
use Rattle.ellipse.proofs.ends.size.Goals as goal

pub returns-then-x : goal.returns-then-x
unfolding size_of zero_f
returns-then-x c = rw c.if-x.true

pub returns-else-x : goal.returns-else-x
unfolding size_of zero_f
returns-else-x c = rw c.if-x.false
