-- `path_place::cursors::forward` meets its contract. The loop keeps the fields and tables of the segments before its place, `Walked`. Assumes nothing.
use Rattle.path_place.proofs.Walks.{Walked}
use Rattle.path_place.proofs.cursors.forward.Given as goal

abbrev pub invariant-loop-at : goal.invariant-loop-at
invariant-loop-at l = Walked l.kinds l.at l.fields l.tables
