-- `path_place::cursors::back` meets its contract. The loop keeps the fields and tables of the segments before its place, `Walked`. Assumes nothing.
use Prim.Native.Nat.{◌≤◌}
use Rattle.path_place.proofs.Walks.{Walked}
use Rattle.path_place.proofs.cursors.back.Given as goal

abbrev pub invariant-loop-at : goal.invariant-loop-at
invariant-loop-at l = (l.segment ≤ l.at) × Walked l.kinds l.at l.fields l.tables
