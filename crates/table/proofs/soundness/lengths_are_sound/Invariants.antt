-- `table::lengths_are_sound` meets its contract. The invariant: the lengths before k climb, and the test of the rest decides for all; or one has failed. Assumes
-- nothing.
use Prim.Native.Nat.{◌-◌}
use Rattle.table.specs.Lookup.{at}
use Rattle.table.proofs.Climbing.{Tested}
use Rattle.table.proofs.soundness.lengths_are_sound.Given as goal

abbrev pub invariant-loop-k : goal.invariant-loop-k
invariant-loop-k l = Tested l.climbs l.lengths (at l.lengths (l.k - 1)) l.k
