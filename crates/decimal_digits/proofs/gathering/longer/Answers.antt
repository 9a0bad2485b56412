-- `decimal_digits::gathering::longer` meets its contract: `longer-exact` below the cap, `longer-capped` from it on. Assumes nothing.
use Rattle.decimal_digits.proofs.Capping.{longer-exact, longer-capped}
use Rattle.decimal_digits.proofs.gathering.longer.Goals as goal

pub returns-then-size-lt930000000000000000 : goal.returns-then-size-lt930000000000000000
returns-then-size-lt930000000000000000 c = λ n e. longer-exact c.args.size c.args.digit n c.requires e c.if-size-lt930000000000000000.true

pub returns : goal.returns
returns c = λ n e. longer-capped c.args.size c.args.digit n e c.if-size-lt930000000000000000.false
