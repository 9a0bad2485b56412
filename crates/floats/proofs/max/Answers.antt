-- `floats::max` meets its contract: each way out rewrites with the tests that led there. Assumes nothing.
use Rattle.floats.specs.Floats.{max_of}
use Rattle.floats.proofs.max.Goals as goal

pub returns-then-a : goal.returns-then-a
unfolding max_of
returns-then-a c = rw c.if-a.true

pub returns-then-a-b : goal.returns-then-a-b
unfolding max_of
returns-then-a-b c = rw (c.if-a.false, c.if-a-b.true)

pub returns-else-a-b : goal.returns-else-a-b
unfolding max_of
returns-else-a-b c = rw (c.if-a.false, c.if-a-b.false)
