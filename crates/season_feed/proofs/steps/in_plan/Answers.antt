-- `season_feed::steps::in_plan` meets its contract: the byte is kept where there is room. Assumes nothing.
use borrow.Author.Rules.{rules}
use Rattle.season_feed.proofs.Bytes.{stored, passed}
use Rattle.season_feed.proofs.steps.in_plan.Goals as goal

pub returns-then-text-have : goal.returns-then-text-have
returns-then-text-have c = passed _ _ _ _ c.requires c.if-text-have.true

pub returns : goal.returns
returns c = stored _ _ _ _ c.requires c.if-text-have.false
