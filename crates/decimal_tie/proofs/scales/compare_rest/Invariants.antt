-- `decimal_tie::scales::compare_rest`: the digits from `i` on against `w` are in the order that is asked for.
use mathlib.Core.Path.{◌≡◌}
use lib.ListN.{drop}
use Rattle.decimal_digits.specs.Digits.{digits_among}
use Rattle.decimal_tie.specs.Words.{wide_of, Small}
use Rattle.decimal_tie.specs.Weighing.{against}
use Rattle.decimal_tie.proofs.scales.compare_rest.Given as goal

abbrev pub invariant-loop-i : goal.invariant-loop-i
invariant-loop-i l = Small l.w × (against (digits_among (drop l.i l.part)) (wide_of l.w) ≡ against (digits_among (drop l.from l.part)) (wide_of l.initial.w))
