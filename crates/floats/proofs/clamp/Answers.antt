-- `floats::clamp` meets its contract: each way out rewrites with the tests that led there. Assumes nothing.
use Rattle.floats.specs.Floats.{clamp_of}
use Rattle.floats.proofs.clamp.Goals as goal

pub returns-then-x-lo : goal.returns-then-x-lo
unfolding clamp_of
returns-then-x-lo c = rw c.if-x-lo.true

pub returns-then-x-hi : goal.returns-then-x-hi
unfolding clamp_of
returns-then-x-hi c = rw (c.if-x-lo.false, c.if-x-hi.true)

pub returns-else-x-hi : goal.returns-else-x-hi
unfolding clamp_of
returns-else-x-hi c = rw (c.if-x-lo.false, c.if-x-hi.false)
