-- `decimal_digits::gathering::fill`: the digits up to `at` are taken into `held`.
use Rattle.std.proofs.Common.{◌≤◌, length, max}
use Rattle.decimal_digits.specs.Leading.{Takes}
use Rattle.decimal_digits.proofs.gathering.fill.Given as goal

abbrev pub invariant-loop-at : goal.invariant-loop-at
invariant-loop-at l = (l.at ≤ max l.from (length l.text)) × Takes l.text l.from l.w l.at l.held
