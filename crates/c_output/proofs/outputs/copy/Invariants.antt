-- The invariant: the numbers before k are in (`Copied`). Assumes nothing.
use Rattle.c_output.proofs.Copying.{Copied}
use Rattle.c_output.proofs.outputs.copy.Given as goal

abbrev pub invariant-loop-k : goal.invariant-loop-k
invariant-loop-k l = Copied l.numbers l.initial.out l.out l.k
