-- The cases of the definition, with the sums lent. Assumes nothing.
use mathlib.Core.Path.{◌≡◌, sym, ap, ◌∙◌}
use mathlib.Core.Bool.{not, true}
use Prim.Native.Nat.{ℕ, ◌+◌, ◌*◌, ◌^◌}
use lib.Ieee.{Float, binary32, of_bits}
use Rattle.trig_rule.specs.Rule.{in_the_reach}
use Rattle.trig_rule.specs.Steps.{fixed_of, rest_of, gap_of, over_of, pack_of, cosine_at}
use Rattle.trig_rule.proofs.Ruled.{cosine-far, cosine-tiny, cosine-main}
use Rattle.trig.proofs.Frame.{none, outside, inside}
use Rattle.trig_all.proofs.Stepped.{stepped-main}
use Rattle.trig_all.proofs.steps.cosine_from.Goals as goal

abbrev answer : ℕ → ℕ → Float
answer a t = of_bits binary32 (over_of a t * 2 ^ 31 + pack_of (gap_of a t) 58)

pub returns-then-not-in_reach : goal.returns-then-not-in_reach
returns-then-not-in_reach c = none ∙ sym (cosine-far c.args.x (outside _ _ c.in_reach.ensures (ap not c.if-not-in_reach.true)))

pub returns-then-x-lt964689920 : goal.returns-then-x-lt964689920
returns-then-x-lt964689920 c = sym (cosine-tiny _ (inside _ _ c.in_reach.ensures (ap not c.if-not-in_reach.false)) c.if-x-lt964689920.true)

pub returns : goal.returns
returns c =
    let near : in_the_reach c.args.x ≡ true = inside _ _ c.in_reach.ensures (ap not c.if-not-in_reach.false) in
    let sums = c.near.ensures ∙ ap (λ (a : ℕ). answer a c.args.minus) c.requires.0 ∙ ap (answer _) c.requires.1 in
    sums ∙ ap (λ (b : ℕ). of_bits binary32 (cosine_at (rest_of (fixed_of b)))) (stepped-main c.args.x near c.if-x-lt964689920.false) ∙ sym (cosine-main c.args.x near c.if-x-lt964689920.false)
