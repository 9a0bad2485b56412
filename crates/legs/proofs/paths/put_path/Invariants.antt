-- `legs::put_path` meets its contract. The loop keeps that the legs of the segments before its place are stored and counted. Assumes nothing.
use Rattle.legs.proofs.Walks.{Walked}
use Rattle.legs.proofs.paths.put_path.Given as goal

abbrev pub invariant-loop-kind : goal.invariant-loop-kind
invariant-loop-kind l = Walked l.limit l.kinds l.fields l.initial.out l.kind-index l.at l.legs l.far l.out
