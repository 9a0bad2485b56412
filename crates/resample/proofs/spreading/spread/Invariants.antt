-- The first point is put, then the loop keeps `Spreading`: the rows so far, and a stretch that is not past the next target's. Assumes nothing.
use Rattle.resample.proofs.Stretches.{Spreading}
use Rattle.resample.proofs.spreading.spread.Given as goal

abbrev pub invariant-loop-i : goal.invariant-loop-i
invariant-loop-i l = Spreading l.points l.count l.total l.initial.out l.out l.stretch l.i
