-- `station_listing::stations` meets its contract: an output that is too short is left, and what is told from its start is written. Assumes nothing.
use borrow.Author.Rules.{rules}
use Rattle.station_listing.proofs.Telling.{told-whole, told-long, told-short}
use Rattle.station_listing.proofs.tool.stations.Goals as goal

pub returns-then-output-ge69632 : goal.returns-then-output-ge69632
returns-then-output-ge69632 c = told-long _ _ _ _ c.if-output-ge69632.true c.tell.ensures

pub returns-then-output-places : goal.returns-then-output-places
returns-then-output-places c = told-short _ _ _ c.needed-places.ensures c.if-output-places.true

pub returns : goal.returns
returns c =
    told-whole _ _ _ _ _ c.needed-places.ensures c.if-output-places.false c.tell-2.ensures
