-- The invariant: the elements before k are in (`Copied`).
use Rattle.svg.proofs.Copying.{Copied}
use Rattle.svg.proofs.passes.put_first.Given as goal

abbrev pub invariant-loop-k : goal.invariant-loop-k
invariant-loop-k g l = Copied l.elements l.initial.out l.out l.k
