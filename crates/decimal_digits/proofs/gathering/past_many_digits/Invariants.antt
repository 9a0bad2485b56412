-- `decimal_digits::gathering::past_many_digits` meets its contract. The invariant: the run from `at` ends where the run from `from` does. The measure is what is left of the
-- text. Assumes nothing.
use Rattle.std.proofs.Common.{◌≡◌, ◌-◌, length}
use Rattle.scan.specs.Runs.{past_digits_of}
use Rattle.decimal_digits.proofs.gathering.past_many_digits.Given as goal

abbrev pub invariant-loop-at : goal.invariant-loop-at
invariant-loop-at l = past_digits_of l.text l.at ≡ past_digits_of l.text l.from

abbrev pub decreases-loop-at : goal.decreases-loop-at
decreases-loop-at l = length l.text - l.at
