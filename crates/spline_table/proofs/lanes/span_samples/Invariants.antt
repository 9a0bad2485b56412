-- The invariant: the samples before i are in, and the last (`Laying`). Assumes nothing.
use Rattle.spline_table.specs.Rows.{blend_at}
use Rattle.spline_table.proofs.Laying.{Laying}
use Rattle.spline_table.proofs.lanes.span_samples.Given as goal

abbrev pub invariant-loop-i : goal.invariant-loop-i
invariant-loop-i l = Laying (blend_at l.p0 l.p1 l.p2 l.p3 l.low) l.own l.next l.r l.i
