-- `path_stored::are_known` meets its contract. The invariant: all kinds are known where those before the index are and those from it on. Assumes nothing.
use Rattle.path_stored.specs.Stored.{are_known}
use lib.ListN.{drop}
use mathlib.Core.Bool.{◌&&◌}
use mathlib.Core.Path.{◌≡◌}
use Rattle.path_stored.proofs.checking.are_known.Given as goal

abbrev pub invariant-loop-kind : goal.invariant-loop-kind
invariant-loop-kind l = are_known l.kinds ≡ (l.known && are_known (drop l.kind-index l.kinds))
