-- The loop keeps the list: each number is stored where it stood. Assumes nothing.
use Rattle.std.proofs.Common.{◌≡◌}
use Rattle.morph.proofs.evaluating.tidy_numbers.Given as goal

abbrev pub invariant-loop-number : goal.invariant-loop-number
invariant-loop-number l = l.number-items ≡ l.initial.number-items
