-- The invariant: in both rows the differences before k are in (`Difference`). Their lengths are the steps (`steps-are`). The measure is
-- the places left. Assumes nothing.
use Rattle.lengths.proofs.Lists.{Passing}
use Rattle.bezier.specs.Rows.{quad_coordinate}
use Rattle.bezier.proofs.Differences.{Difference}
use Rattle.bezier.proofs.quads.quad_steps.Given as goal

abbrev pub invariant-loop-k : goal.invariant-loop-k
invariant-loop-k l = Passing (Difference (quad_coordinate l.start.x l.control.x l.end.x)) l.x 32 l.k × Passing (Difference (quad_coordinate l.start.y l.control.y l.end.y)) l.y 32 l.k
