-- `season_feed::sheets::whole` meets its contract. Assumes nothing.
use borrow.Author.Rules.{rules}
use mathlib.Core.Path.{sym, ap}
use Rattle.season_feed.specs.Standing.{ends_whole}
use Rattle.season_feed.proofs.sheets.whole.Goals as goal

pub returns-in-Line : goal.returns-in-Line
returns-in-Line c = sym (ap ends_whole c.in-Line.is)
