-- The bits that steps are taken for, by the cases of the definitions of sine and cosine. Assumes nothing.
use mathlib.Core.Path.{◌≡◌}
use mathlib.Core.Bool.{true, false}
use Prim.Native.Nat.{◌≤◌, ◌<◌}
use borrow.Author.Tests.{le-ltb, lt-ltb}
use lib.Ieee.{Float}
use Rattle.trig_rule.specs.Rule.{in_the_reach}
use Rattle.trig_rule.specs.Steps.{tiny_bits, plain}
use Rattle.trig_all.specs.Rows.{stepped_bits}

module _ (x : Float) where
  pub stepped-far : in_the_reach x ≡ false → stepped_bits x ≡ 1065353216
  unfolding stepped_bits
  stepped-far h = simp h

  pub stepped-tiny : in_the_reach x ≡ true → plain x < tiny_bits → stepped_bits x ≡ 1065353216
  unfolding stepped_bits
  stepped-tiny h l = simp (h, lt-ltb (plain x) tiny_bits l)

  pub stepped-main : in_the_reach x ≡ true → tiny_bits ≤ plain x → stepped_bits x ≡ plain x
  unfolding stepped_bits
  stepped-main h l = simp (h, le-ltb (plain x) tiny_bits l)
