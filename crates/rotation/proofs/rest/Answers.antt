-- By the exponent: below 2 ^ 26 the digits are divided by 360 in their own unit (`low-is`), from there on by 45 turns of 8 degrees (`high_is`). Assumes nothing.
use borrow.Author.Rules.{rules}
use native.Mathlib.Omega.{arith}
use native.Mathlib.Nat.{mul-pos, le_trans, mod-le}
use mathlib.Core.Path.{◌≡◌, sym, subst}
use Prim.Native.Nat.{ℕ, ◌+◌, ◌-◌, ◌*◌, ◌/◌, ◌%◌, ◌^◌, ◌≤◌, ◌<◌}
use lib.Dec.{le→leb, lit<}
use lib.Pow.{pow_pos}
use lib.Ieee.{in_float}
use Rattle.floats.specs.Patterns.{hidden}
use Rattle.rotation.proofs.Patterns.{turn-shifted, unit-bits, low-is, high_is}
use Rattle.rotation.proofs.rest.Goals as goal

pub nonzero_rem-left : goal.nonzero_rem-left
nonzero_rem-left c =
    subst (λ (n : ℕ). 0 < n) (sym (turn-shifted c.args.a c.requires.0 c.if-e-lt153.true)) (mul-pos (lit< tt) (pow_pos (153 - c.args.a / hidden)))

pub int_to_float-result : goal.int_to_float-result
unfolding in_float
int_to_float-result c = le→leb _ (2 ^ 24) (le_trans (mod-le (c.args.a % hidden + hidden) _) (omega arith))

pub float_from_bits-result : goal.float_from_bits-result
float_from_bits-result c = unit-bits c.args.a c.requires.0 c.if-e-lt153.true

pub returns-then-e-lt153 : goal.returns-then-e-lt153
returns-then-e-lt153 c = low-is c.args.a c.requires.0 c.if-e-lt153.true

-- below 45 turns of 8 degrees
few-eights : (r n : ℕ) → r ≡ n % 45 → r * 8 ≤ 2 ^ 24
few-eights r n e = omega arith

pub int_to_float-result-2 : goal.int_to_float-result-2
unfolding in_float
int_to_float-result-2 c = le→leb (c.eights.result * 8) (2 ^ 24) (few-eights c.eights.result _ c.eights.ensures)

pub returns : goal.returns
returns c = high_is c.args.a c.if-e-lt153.false c.eights.result c.eights.ensures
