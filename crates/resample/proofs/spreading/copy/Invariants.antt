-- The loop keeps that the first i rows are written. Assumes nothing.
use Rattle.std.proofs.Common.{◌≡◌}
use Rattle.answers.specs.Report.{written}
use Rattle.polyline.specs.Points.{point_at, rows_of}
use Rattle.resample.proofs.spreading.copy.Given as goal

abbrev pub invariant-loop-i : goal.invariant-loop-i
invariant-loop-i l = l.out ≡ written (rows_of (λ i. point_at l.points 0) l.i) l.initial.out
