-- The bits that make floats are none of a NaN: a field of 2047 ones is out of reach. Assumes nothing.
use native.Mathlib.Omega.{arith}
use Prim.Native.Nat.{ℕ, ◌+◌, ◌-◌, ◌*◌, ◌%◌, ◌≤◌, ◌<◌}
use native.Mathlib.Nat.{le_of_lt}
use mathlib.Core.Path.{◌≡◌}
use mathlib.Core.Bool.{Bool, true, false, not, cond}
use lib.Dec.{T, ltb}
use lib.Ieee.{binary64, nan_bits}
use Rattle.floats.specs.Patterns.{wide_sign_place, wide_infinity_bits}
use Rattle.decimal_rounding.proofs.Wide.{no-nan-plain}
use Rattle.atan2_rule.specs.Steps.{guess_of}
use Rattle.atan2.proofs.guess.guess.Goals as goal

no_nan : (b : ℕ) → b % wide_sign_place < wide_infinity_bits → T (not (nan_bits binary64 b))
no_nan b h = no-nan-plain binary64 b (le_of_lt h)

picked-le : (t : Bool) (a b p m : ℕ) → p ≡ cond t a b → a ≤ m → b ≤ m → p ≤ m
picked-le true a b p m e h k = omega arith
picked-le false a b p m e h k = omega arith

signed : (s p : ℕ) → s ≤ 1 → p ≤ 9218868437227405311 → (s * wide_sign_place + p) % wide_sign_place < wide_infinity_bits
signed s p h k = omega arith

pub float_from_bits-n : goal.float_from_bits-n
float_from_bits-n c =
    no_nan _
    (signed c.pick.result c.pick-2.result
    (picked-le (ltb c.args.d.v c.args.d.u) (1 - c.args.d.left) c.args.d.left c.pick.result 1 c.pick.ensures.value (omega arith) (omega arith))
    (picked-le (ltb c.args.d.v c.args.d.u) c.args.b c.args.a c.pick-2.result 9218868437227405311 c.pick-2.ensures.value (omega arith) (omega arith)))

pub float_from_bits-below : goal.float_from_bits-below
float_from_bits-below c =
    let p = picked-le (ltb c.args.d.v c.args.d.u) c.args.a c.args.b c.pick-below.result 9218868437227405311 c.pick-below.ensures.value (omega arith) (omega arith) in
    no_nan _ (omega arith)

pub float_from_bits-start : goal.float_from_bits-start
float_from_bits-start c = no_nan _ (omega arith)

pub returns : goal.returns
unfolding guess_of
returns c = (cc, c.near_bits.ensures.1, c.near_bits.ensures.2)
