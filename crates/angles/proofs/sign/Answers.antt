-- `angles::sign` meets its contract: the branch's test is the definition's. Assumes nothing.
use Rattle.floats.specs.Floats.{zero_f, one_f}
use Rattle.angles.specs.Angles.{sign_of, cross_of, minus_one_f}
use Rattle.angles.proofs.sign.Goals as goal

pub returns-then-u-v : goal.returns-then-u-v
unfolding sign_of cross_of zero_f one_f minus_one_f
returns-then-u-v c = rw c.if-u-v.true

pub returns-else-u-v : goal.returns-else-u-v
unfolding sign_of cross_of zero_f one_f
returns-else-u-v c = rw c.if-u-v.false
