-- `station_listing::stations_read` meets its contract: 4,107 bytes settle the listing (`bytes_cut`). Assumes nothing.
use borrow.Author.Rules.{rules}
use native.Mathlib.Omega.{arith}
use Rattle.station_listing.proofs.Cut.{read-listed}
use Rattle.station_listing.proofs.tool.stations_read.Goals as goal

pub stations_of-requires : goal.stations_of-requires
stations_of-requires c = c.requires.1

pub returns : goal.returns
returns c =
    read-listed c.args.plan.now c.args.size _ _ _ (omega (arith, c.requires.0)) c.stations_of.ensures
