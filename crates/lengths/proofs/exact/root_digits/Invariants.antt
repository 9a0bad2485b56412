-- The invariant: q is the root of n * 4^i after i digits, with the rest (`Longer`). Assumes nothing.
use Rattle.lengths.proofs.Longer.{Longer}
use Rattle.lengths.proofs.exact.root_digits.Given as goal

abbrev pub invariant-loop-digit : goal.invariant-loop-digit
invariant-loop-digit l = Longer l.n l.q l.rest l._digit
