-- The shift loses no digit: 24 digits are moved up by 39 places at most. Assumes nothing.
use Rattle.std.proofs.Common.{ℕ, ◌+◌, ◌-◌, ◌*◌, ◌/◌, ◌%◌, ◌^◌, ◌≤◌, le_trans, lt_of_le_of_lt, mod-eq_of_lt, mul-le-mul, arith, lit<, pow_mono}
use native.Mathlib.Nat.{mod-le}
use Rattle.floats.specs.Patterns.{hidden}
use Rattle.trig_rule.specs.Steps.{fixed_of}
use Rattle.trig.proofs.sides.fixed.Goals as goal

fixed-le : (a : ℕ) → a ≤ 1115684864 → fixed_of a ≤ 2 ^ 24 * 2 ^ 39
fixed-le a h =
    let m : a % hidden + hidden ≤ 2 ^ 24 = omega arith in
    let e : a / hidden - 94 ≤ 39 = omega arith in
    mul-le-mul m (pow_mono e)

pub returns : goal.returns
returns c = (mod-eq_of_lt (lt_of_le_of_lt (fixed-le c.args.a c.requires.1) (lit< tt)), le_trans (mod-le _ _) (fixed-le c.args.a c.requires.1))
