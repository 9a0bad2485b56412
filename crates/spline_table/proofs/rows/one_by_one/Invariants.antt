-- The invariant: the differences before i are in, and the sample made last is the one at k + i (`Crossing`). Assumes nothing.
use Rattle.spline.specs.Formula.{spline_sample_of}
use Rattle.spline_table.proofs.Crossing.{Crossing}
use Rattle.spline_table.proofs.rows.one_by_one.Given as goal

abbrev pub invariant-loop-i : goal.invariant-loop-i
invariant-loop-i l = Crossing (spline_sample_of l.points) l.last l.k l.x l.y l.previous l.i
