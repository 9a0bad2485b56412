-- Only an angle in reach, and not tiny, keeps its bits. Assumes nothing.
use mathlib.Core.Bool.{not}
use native.Mathlib.Omega.{arith}
use mathlib.Core.Path.{ap, sym}
use Rattle.trig.proofs.Frame.{outside, inside, plain-le}
use Rattle.trig_all.proofs.Stepped.{stepped-far, stepped-tiny, stepped-main}
use Rattle.trig_all.proofs.steps.stepped_bits.Goals as goal

pub returns-then-not-in_reach : goal.returns-then-not-in_reach
returns-then-not-in_reach c = (sym (stepped-far _ (outside _ _ c.in_reach.ensures (ap not c.if-not-in_reach.true))), omega arith, omega arith)

pub returns-then-a-lt964689920 : goal.returns-then-a-lt964689920
returns-then-a-lt964689920 c = (sym (stepped-tiny _ (inside _ _ c.in_reach.ensures (ap not c.if-not-in_reach.false)) c.if-a-lt964689920.true), omega arith, omega arith)

pub returns : goal.returns
returns c =
    let near = inside _ _ c.in_reach.ensures (ap not c.if-not-in_reach.false) in
    (sym (stepped-main c.args.x near c.if-a-lt964689920.false), c.if-a-lt964689920.false, plain-le c.args.x c.well_formed.0.1 near)
