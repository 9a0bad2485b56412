-- `decimal_tie::scales::take`: the digits from `i` on are those from `from` on.
use mathlib.Core.Path.{◌≡◌}
use lib.ListN.{drop}
use Rattle.decimal_digits.specs.Digits.{digits_among}
use Rattle.decimal_tie.proofs.scales.take.Given as goal

abbrev pub invariant-loop-i : goal.invariant-loop-i
invariant-loop-i l = digits_among (drop l.i l.part) ≡ digits_among (drop l.from l.part)
