-- `ellipse::facing` meets its contract: the branch's test is the definition's. Assumes nothing.
use Rattle.floats.specs.Floats.{one_f}
use Rattle.angles.specs.Angles.{minus_one_f}
use Rattle.ellipse.specs.Ends.{facing_of}
use Rattle.ellipse.proofs.ends.facing.Goals as goal

pub returns-then-same : goal.returns-then-same
unfolding facing_of minus_one_f one_f
returns-then-same c = rw c.if-same.true

pub returns-else-same : goal.returns-else-same
unfolding facing_of one_f
returns-else-same c = rw c.if-same.false
