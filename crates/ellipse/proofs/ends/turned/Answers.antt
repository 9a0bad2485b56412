-- `ellipse::turned` meets its contract: the tests that led to each return are the definition's. Assumes nothing.
use Rattle.floats.specs.Floats.{zero_f}
use Rattle.math.specs.Math.{pi_f}
use Rattle.ellipse.specs.Ends.{turned_of, whole_turn_f, two_f}
use Rattle.ellipse.proofs.ends.turned.Goals as goal

pub returns-then-angle : goal.returns-then-angle
unfolding turned_of whole_turn_f two_f pi_f zero_f
returns-then-angle c = rw (c.if-sweep.true, c.if-angle.true)

pub returns-then-sweep : goal.returns-then-sweep
unfolding turned_of zero_f
returns-then-sweep c = rw (c.if-sweep.true, c.if-angle.false)

pub returns-then-angle-2 : goal.returns-then-angle-2
unfolding turned_of whole_turn_f two_f pi_f zero_f
returns-then-angle-2 c = rw (c.if-sweep.false, c.if-angle-2.true)

pub returns : goal.returns
unfolding turned_of zero_f
returns c = rw (c.if-sweep.false, c.if-angle-2.false)
