-- The invariant: each place before i has what is left of its angle. Assumes nothing.
use Rattle.trig_all.specs.Rows.{Row, rest_at, flip_at}
use Rattle.trig_all.proofs.passes.put_rests.Given as goal

abbrev pub invariant-loop-i : goal.invariant-loop-i
invariant-loop-i l = Row (rest_at l.x l.at) l.i l.r × Row (flip_at l.x l.at) l.i l.flip
