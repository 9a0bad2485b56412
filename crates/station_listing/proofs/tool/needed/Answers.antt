-- `station_listing::tool::needed` meets its contract: what is told is counted. Assumes nothing.
use borrow.Author.Rules.{rules}
use Rattle.station_listing.proofs.Telling.{told-count}
use Rattle.station_listing.proofs.tool.needed.Goals as goal

pub returns : goal.returns
returns c = told-count _ _ _ _ c.tell.ensures
