-- `station_commands::listing::list` meets its contract. The loop keeps that the commands up to its state are known and their lines are put; the
-- measure is what is left of the text. Assumes nothing.
use Prim.Native.Nat.{◌-◌}
use lib.ListN.{length, drop}
use Rattle.station_commands.proofs.PlanLaws.{Listing}
use Rattle.station_commands.proofs.listing.list.Given as goal

abbrev pub invariant-loop-step : goal.invariant-loop-step
invariant-loop-step l = Listing (drop l.start l.input) l.initial.out l.out l.from l.reader l.at

abbrev pub decreases-loop-step : goal.decreases-loop-step
decreases-loop-step l = length (drop l.start l.input) - l.reader.at
