-- `decimal::magnitudes::sum` meets its contract: a sum that reaches the cap is capped. Assumes nothing.
use Rattle.decimal.proofs.Capped.{sum-capped, sum-exact}
use Rattle.decimal.proofs.magnitudes.sum.Goals as goal

pub returns-then-a-b : goal.returns-then-a-b
returns-then-a-b c = λ n e. sum-capped c.args.a c.args.b n e c.requires c.if-a-b.true

pub returns : goal.returns
returns c = λ n e. sum-exact c.args.a c.args.b n e c.requires c.if-a-b.false
