-- The cases of the definition, with the sums lent. Assumes nothing.
use native.Mathlib.Omega.{arith}
use Prim.Native.Nat.{ℕ, ◌+◌, ◌*◌, ◌%◌}
use mathlib.Core.Path.{◌≡◌, sym, ap, ◌∙◌}
use mathlib.Core.Bool.{not, true}
use lib.Ieee.{binary32, of_bits}
use Rattle.trig_rule.specs.Rule.{in_the_reach}
use Rattle.trig_rule.specs.Steps.{fixed_of, flip_of, rest_of, sign_bit, sine_at}
use Rattle.trig_rule.proofs.Ruled.{sine-far, sine-tiny, sine-main}
use Rattle.trig.proofs.Frame.{none, outside, inside, sign_le, number-bits}
use Rattle.trig_all.specs.Rows.{rest_for, flip_for}
use Rattle.trig_all.proofs.Stepped.{stepped-main}
use Rattle.trig_all.proofs.steps.sine_from.Goals as goal

pub returns-then-not-in_reach : goal.returns-then-not-in_reach
returns-then-not-in_reach c = none ∙ sym (sine-far c.args.x (outside _ _ c.in_reach.ensures (ap not c.if-not-in_reach.true)))

pub returns-then-b-lt964689920 : goal.returns-then-b-lt964689920
returns-then-b-lt964689920 c = sym (sine-tiny _ (inside _ _ c.in_reach.ensures (ap not c.if-not-in_reach.false)) c.if-b-lt964689920.true)

pub overflow_add-result : goal.overflow_add-result
overflow_add-result c =
    record { fits = omega (arith, sign_le c.args.x c.well_formed.0.1, c.ranges.flip.fits) }

pub overflow_add-result-2 : goal.overflow_add-result-2
overflow_add-result-2 c =
    record { fits = omega (arith, sign_le c.args.x c.well_formed.0.1, c.ranges.flip.fits, c.over.ensures.1) }

pub float_from_bits-result : goal.float_from_bits-result
float_from_bits-result c = number-bits _ (omega (arith, c.pack-m.ensures.1))

pub returns : goal.returns
returns c =
    let near : in_the_reach c.args.x ≡ true = inside _ _ c.in_reach.ensures (ap not c.if-not-in_reach.false) in
    let bits : (sign_bit c.args.x + c.args.flip + c.over.result) % 2 * 2147483648 + c.pack-m.result ≡ sine_at (sign_bit c.args.x + flip_for c.args.x) (rest_for c.args.x) = cc in
    ap (of_bits binary32) bits ∙ ap (λ (b : ℕ). of_bits binary32 (sine_at (sign_bit c.args.x + flip_of (fixed_of b)) (rest_of (fixed_of b)))) (stepped-main c.args.x near
    c.if-b-lt964689920.false) ∙ sym (sine-main c.args.x near c.if-b-lt964689920.false)
