-- `floats::min` meets its contract: each way out rewrites with the tests that led there. Assumes nothing.
use Rattle.floats.specs.Floats.{min_of}
use Rattle.floats.proofs.min.Goals as goal

pub returns-then-a : goal.returns-then-a
unfolding min_of
returns-then-a c = rw c.if-a.true

pub returns-then-b-a : goal.returns-then-b-a
unfolding min_of
returns-then-b-a c = rw (c.if-a.false, c.if-b-a.true)

pub returns-else-b-a : goal.returns-else-b-a
unfolding min_of
returns-else-b-a c = rw (c.if-a.false, c.if-b-a.false)
