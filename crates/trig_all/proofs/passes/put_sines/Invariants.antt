-- The invariant: the sines before i are put, and the other places have their angles. Assumes nothing.
use Rattle.trig_rule.specs.Steps.{sine_of}
use Rattle.trig_all.specs.Rows.{Run}
use Rattle.trig_all.proofs.passes.put_sines.Given as goal

abbrev pub invariant-loop-i : goal.invariant-loop-i
invariant-loop-i l = Run sine_of l.at l.i l.initial.x l.initial.x l.x
