-- The invariant: the samples before i are in, and the last (`Laying`). Assumes nothing.
use Rattle.math.specs.Math.{lerp_of}
use Rattle.spline_table.proofs.Laying.{Laying}
use Rattle.spline_table.proofs.lanes.leg_samples.Given as goal

abbrev pub invariant-loop-i : goal.invariant-loop-i
invariant-loop-i l = Laying (lerp_of l.a l.b) l.own l.next l.r l.i
