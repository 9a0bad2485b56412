-- Before the point number i the total is the running length at the point before it, and every one up to there is finite. Assumes nothing.
use Rattle.polyline.proofs.Measuring.{Measuring}
use Rattle.polyline.proofs.outline.measure.Given as goal

abbrev pub invariant-loop-i : goal.invariant-loop-i
invariant-loop-i l = Measuring l.points l.total l.i
