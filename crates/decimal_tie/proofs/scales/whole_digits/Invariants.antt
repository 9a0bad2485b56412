-- `decimal_tie::scales::whole_digits`: the digits gathered in `w`, those from `at` on and the count of those that are still whole, against any number, are in
-- the order of all digits against it.
use mathlib.Core.Path.{◌≡◌}
use Prim.Native.Nat.{ℕ, ◌-◌}
use lib.ListN.{drop}
use Rattle.decimal_digits.specs.Digits.{digits_among}
use Rattle.decimal_tie.specs.Words.{wide_of, Small}
use Rattle.decimal_tie.specs.Weighing.{partly}
use Rattle.decimal_tie.proofs.scales.whole_digits.Given as goal

abbrev pub invariant-digits : goal.invariant-digits
invariant-digits l =
    Small l.w × ((s : ℕ) → partly 0 (digits_among l.part) l.count s ≡ partly (wide_of l.w) (digits_among (drop l.at l.part)) (l.count - l.counter) s)
