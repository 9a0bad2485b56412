-- The loop keeps the bounds of the points so far. Assumes nothing.
use Rattle.std.proofs.Common.{◌≡◌}
use Rattle.morph.specs.Bounds.{bounds_of}
use Rattle.morph.proofs.bounding.bounds_between.Given as goal

abbrev pub invariant-loop-i : goal.invariant-loop-i
invariant-loop-i l = l.bounds ≡ bounds_of l.from l.to l.along l.i
