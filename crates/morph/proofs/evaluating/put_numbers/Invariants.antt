-- The loop keeps `Filling`: the numbers so far are written, before the middle and past it. Assumes nothing.
use Rattle.morph.proofs.Filling.{Filling}
use Rattle.morph.proofs.evaluating.put_numbers.Given as goal

abbrev pub invariant-loop-j : goal.invariant-loop-j
invariant-loop-j l = Filling l.from l.to l.along l.initial.out l.half l.out l.any l.j
