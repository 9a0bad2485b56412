-- `season_feed::feeding::start` meets its contract. Assumes nothing.
use borrow.Author.Rules.{rules}
use Rattle.season_feed.proofs.Wholes.{fresh}
use Rattle.season_feed.proofs.feeding.start.Goals as goal

pub returns : goal.returns
returns c = record { all = λ text l. fresh _ c.none.ensures text l; opened = tt }
