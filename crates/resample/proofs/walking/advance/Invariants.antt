-- The loop keeps `Walking`: a stretch at or before the one that is picked. The measure is the points left. Assumes nothing.
use Prim.Native.Nat.{◌-◌}
use Rattle.polyline.specs.Points.{count_of}
use Rattle.resample.proofs.Walk.{Walking}
use Rattle.resample.proofs.walking.advance.Given as goal

abbrev pub invariant-loop-upper : goal.invariant-loop-upper
invariant-loop-upper l = Walking l.points l.target l.upper l.low l.high

abbrev pub decreases-loop-upper : goal.decreases-loop-upper
decreases-loop-upper l = count_of l.points - l.upper
