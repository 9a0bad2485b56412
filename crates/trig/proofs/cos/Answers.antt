-- Each way out is a case of the definition: beyond 64, below 2 ^ -12, and by the steps. The laws of the crate `trig_rule` say which bits an angle in reach can have. Assumes nothing.
use mathlib.Core.Bool.{not}
use Rattle.std.proofs.Common.{◌≡◌, ℕ, sym, ap, ◌∙◌, arith}
use lib.Ieee.{binary32, of_bits}
use Rattle.trig_rule.specs.Steps.{fixed_of, rest_of, plain, cosine_at}
use Rattle.trig_rule.proofs.Ruled.{cosine-far, cosine-tiny, cosine-main}
use Rattle.trig.proofs.Frame.{none, outside, inside, plain-le}
use Rattle.trig.proofs.cos.Goals as goal

pub returns-then-not-in_reach : goal.returns-then-not-in_reach
returns-then-not-in_reach c = none ∙ sym (cosine-far c.args.x (outside _ _ c.in_reach.ensures (ap not c.if-not-in_reach.true)))

pub returns-then-a-lt964689920 : goal.returns-then-a-lt964689920
returns-then-a-lt964689920 c = sym (cosine-tiny _ (inside _ _ c.in_reach.ensures (ap not c.if-not-in_reach.false)) c.if-a-lt964689920.true)

pub fixed-requires : goal.fixed-requires
fixed-requires c =
    (omega arith, plain-le c.args.x c.well_formed.0.1 (inside _ _ c.in_reach.ensures (ap not c.if-not-in_reach.false)))

pub returns : goal.returns
returns c =
    let size : c.reduce-r.result.size ≡ rest_of (fixed_of (plain c.args.x)) = cc in
    c.cosine_near.ensures ∙ ap (λ (r : ℕ). of_bits binary32 (cosine_at r)) size
    ∙ sym (cosine-main c.args.x (inside _ _ c.in_reach.ensures (ap not c.if-not-in_reach.false)) c.if-a-lt964689920.false)
