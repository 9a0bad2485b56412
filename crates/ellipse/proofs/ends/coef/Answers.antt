-- `ellipse::coef` meets its contract: the branch's test is the definition's, and what the calls ensure is what it names. Assumes nothing.
use Rattle.floats.specs.Floats.{zero_f, epsilon_f}
use Rattle.ellipse.specs.Ends.{coef_of, denom_of, under_root}
use Rattle.ellipse.proofs.ends.coef.Goals as goal

pub returns-then-denom : goal.returns-then-denom
unfolding coef_of denom_of epsilon_f zero_f
returns-then-denom c = rw c.if-denom.true

pub returns : goal.returns
unfolding coef_of under_root denom_of epsilon_f zero_f
returns c = rw (c.if-denom.false, c.sqrt.ensures, c.max.ensures, c.facing.ensures)
