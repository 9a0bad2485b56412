-- `decimal_digits::gathering::exponent`: the run from `at` ends where the run from `from` does, and the size is the number of the digits passed, capped.
use Rattle.std.proofs.Common.{◌≡◌, ◌≤◌, length, max}
use Rattle.scan.specs.Runs.{past_digits_of}
use Rattle.decimal_digits.specs.Digits.{digits_in, val}
use Rattle.decimal_digits.specs.Exponent.{capped}
use Rattle.decimal_digits.proofs.gathering.exponent.Given as goal

abbrev pub invariant-loop-at : goal.invariant-loop-at
invariant-loop-at l =
    (l.at ≤ max l.from (length l.text)) × (past_digits_of l.text l.at ≡ past_digits_of l.text l.from) × (l.size ≡ capped (val (digits_in l.text l.from l.at)))
