-- `svg_group::pass_numbers` meets its contract: the numbers that are left are passed from where it stands. Assumes nothing.
use Prim.Native.Nat.{◌-◌}
use mathlib.Core.Path.{◌≡◌}
use Rattle.svg_group.specs.Passing.{pass_numbers_of}
use Rattle.svg_group.proofs.passing.pass_numbers.Given as goal

abbrev pub invariant-loop : goal.invariant-loop
invariant-loop l = pass_numbers_of l.text l.count l.at ≡ pass_numbers_of l.text (l.count - l.counter) l.next
