-- The balance decides. Assumes nothing.
use Rattle.atan2_rule.specs.Steps.{ahead_at}
use Rattle.atan2.proofs.search.ahead_at.Goals as goal

pub returns : goal.returns
unfolding ahead_at
returns c = rw (c.balance-s.ensures.0, c.balance-s.ensures.1)
