-- `station_listing::stations_of` meets its contract: it is `stations` of those bytes. Assumes nothing.
use borrow.Author.Rules.{rules}
use mathlib.Core.Path.{sym}
use native.Mathlib.Omega.{arith}
use lib.Seq.{length-take-le}
use Rattle.station_listing.proofs.tool.stations_of.Goals as goal

pub slice_bounds-stations-end : goal.slice_bounds-stations-end
slice_bounds-stations-end c = sym (length-take-le _ _ c.requires)

pub returns : goal.returns
returns c = c.stations.ensures
