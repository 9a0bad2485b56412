-- The invariant: the cosines before i are put. Assumes nothing.
use Rattle.trig_rule.specs.Steps.{cosine_of}
use Rattle.trig_all.specs.Rows.{Run}
use Rattle.trig_all.proofs.passes.put_cosines.Given as goal

abbrev pub invariant-loop-i : goal.invariant-loop-i
invariant-loop-i l = Run cosine_of l.at l.i l.x l.initial.y l.y
