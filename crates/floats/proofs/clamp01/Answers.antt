-- `floats::clamp01` meets its contract: a NaN leaves by the first return, and the rest is what `clamp` ensures. Assumes nothing.
use borrow.Author.Rules.{rules}
use Rattle.floats.specs.Floats.{clamp01_of, zero_f, one_f}
use Rattle.floats.proofs.clamp01.Goals as goal

pub returns-then-t : goal.returns-then-t
unfolding clamp01_of zero_f
returns-then-t c = rw c.if-t.true

pub returns : goal.returns
unfolding clamp01_of zero_f one_f
returns c = rw c.if-t.false c.clamp.ensures
