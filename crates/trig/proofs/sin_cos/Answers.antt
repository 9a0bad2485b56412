-- The cases of `sin` and of `cos` side by side, over one reduction. Assumes nothing.
use mathlib.Core.Bool.{not}
use Rattle.std.proofs.Common.{◌≡◌, ℕ, ◌+◌, true, sym, ap, ◌∙◌, arith}
use lib.Ieee.{binary32, of_bits}
use Rattle.trig_rule.specs.Rule.{in_the_reach}
use Rattle.trig_rule.specs.Steps.{fixed_of, flip_of, rest_of, plain, sign_bit, cosine_at}
use Rattle.trig_rule.proofs.Ruled.{sine-far, sine-tiny, sine-main, cosine-far, cosine-tiny, cosine-main}
use Rattle.trig.proofs.Frame.{none, outside, inside, plain-le, sign_le, sine-is}
use Rattle.trig.proofs.sin_cos.Goals as goal

pub returns-then-not-in_reach : goal.returns-then-not-in_reach
returns-then-not-in_reach c =
    let far = outside _ _ c.in_reach.ensures (ap not c.if-not-in_reach.true) in
    (none ∙ sym (sine-far c.args.x far), none ∙ sym (cosine-far c.args.x far))

pub returns-then-a-lt964689920 : goal.returns-then-a-lt964689920
returns-then-a-lt964689920 c =
    let near = inside _ _ c.in_reach.ensures (ap not c.if-not-in_reach.false) in
    (sym (sine-tiny _ near c.if-a-lt964689920.true), sym (cosine-tiny _ near c.if-a-lt964689920.true))

pub fixed-requires : goal.fixed-requires
fixed-requires c =
    (omega arith, plain-le c.args.x c.well_formed.0.1 (inside _ _ c.in_reach.ensures (ap not c.if-not-in_reach.false)))

pub overflow_add-b : goal.overflow_add-b
overflow_add-b c =
    record { fits = omega (arith, sign_le c.args.x c.well_formed.0.1) }

pub sine_near-s-requires : goal.sine_near-s-requires
sine_near-s-requires c =
    (omega (arith, sign_le c.args.x c.well_formed.0.1), omega arith, c.sine_sides-sides.ensures.2, c.sine_sides-sides.ensures.3)

pub returns : goal.returns
returns c =
    let size = fixed_of (plain c.args.x) in
    let near : in_the_reach c.args.x ≡ true = inside _ _ c.in_reach.ensures (ap not c.if-not-in_reach.false) in
    let turned : sign_bit c.args.x + c.reduce-r.result.flip ≡ sign_bit c.args.x + flip_of size = cc in
    let left : c.reduce-r.result.size ≡ rest_of size = cc in (
      c.sine_near-s.ensures ∙ ap (of_bits binary32) (sine-is turned left c.sine_sides-sides.ensures.0 c.sine_sides-sides.ensures.1) ∙ sym (sine-main c.args.x near c.if-a-lt964689920.false),
      c.cosine_near-c.ensures ∙ ap (λ (r : ℕ). of_bits binary32 (cosine_at r)) left ∙ sym (cosine-main c.args.x near c.if-a-lt964689920.false),
    )
