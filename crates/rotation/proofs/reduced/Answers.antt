-- By the bits without the sign: up to 360, infinite, or beyond, where the sign is put before what is left of the size. Assumes nothing.
use borrow.Author.Rules.{rules}
use native.Mathlib.Omega.{arith}
use mathlib.Core.Path.{◌≡◌, sym, ap, ◌∙◌, subst}
use mathlib.Core.Bool.{Bool, true, false, not}
use Prim.Native.Nat.{◌%◌, ◌^◌}
use lib.Dec.{T}
use lib.Ieee.{nan, binary32, neg}
use lib.Ieee.Compare.{differs_from_itself}
use Rattle.floats.proofs.Order.{same→real}
use Rattle.decimal_rounding.proofs.Limits.{round-neg}
use lib.Ieee.Bits.{to_bits-lt}
use Rattle.trig_rule.specs.Steps.{plain}
use Rattle.rotation.specs.Rotation.{full_turn, units_at, reduced_of}
use Rattle.rotation.proofs.Patterns.{within-bits, infinite-bits, beyond-bits}
use Rattle.rotation.proofs.reduced.Goals as goal

held : (b : Bool) → b ≡ true → T b
held b e = subst T (sym e) tt

lacks : (b : Bool) → b ≡ false → T (not b)
lacks b e = subst (λ (a : Bool). T (not a)) (sym e) tt

pub returns-then-degrees : goal.returns-then-degrees
unfolding reduced_of
returns-then-degrees c = let e : c.args.degrees ≡ nan = differs_from_itself _ (held _ c.if-degrees.true) in e ∙ sym (ap reduced_of e)

pub float_to_bits-b : goal.float_to_bits-b
float_to_bits-b c = same→real _ (lacks _ c.if-degrees.false)

pub returns-then-a-le1135869952 : goal.returns-then-a-le1135869952
returns-then-a-le1135869952 c = sym (within-bits c.args.degrees (held _ c.well_formed.0.1) c.if-a-le1135869952.true)

pub returns-then-a-ge2139095040 : goal.returns-then-a-ge2139095040
returns-then-a-ge2139095040 c = sym (infinite-bits c.args.degrees (held _ c.well_formed.0.1) c.if-a-ge2139095040.true)

pub returns-then-b-lt2147483648 : goal.returns-then-b-lt2147483648
returns-then-b-lt2147483648 c =
    c.rest.ensures ∙ sym (beyond-bits c.args.degrees false (held _ c.well_formed.0.1) (omega arith) c.if-a-le1135869952.false c.if-a-ge2139095040.false)

pub returns-else-b-lt2147483648 : goal.returns-else-b-lt2147483648
returns-else-b-lt2147483648 c =
    let bits = to_bits-lt binary32 c.args.degrees (held _ c.well_formed.0.1) in
    ap neg c.rest-else-b-lt2147483648.ensures
    ∙ sym (round-neg binary32 (units_at (plain c.args.degrees) % full_turn) (2 ^ 149))
    ∙ sym (beyond-bits c.args.degrees true (held _ c.well_formed.0.1) (omega arith) c.if-a-le1135869952.false c.if-a-ge2139095040.false)
