-- `decimal_digits::gathering::gather_many` meets its contract. The invariant: the digits up to `at` are taken into `held`. The measure is what is left of the text.
-- Assumes nothing.
use Rattle.std.proofs.Common.{◌-◌, length}
use Rattle.decimal_digits.specs.Leading.{Takes}
use Rattle.decimal_digits.proofs.gathering.gather_many.Given as goal

abbrev pub invariant-loop-held : goal.invariant-loop-held
invariant-loop-held l = Takes l.text l.from l.w l.at l.held

abbrev pub decreases-loop-held : goal.decreases-loop-held
decreases-loop-held l = length l.text - l.at
