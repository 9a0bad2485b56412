-- `path_stored::counts::fields_between` meets its contract. The invariant: the sum is of the segments before `at`. The measure is the segments left. Assumes nothing.
use mathlib.Core.Path.{◌≡◌, subst}
use Prim.Native.Nat.{ℕ, ◌+◌, ◌≤◌}
use native.Mathlib.Omega.{arith}
use Rattle.path_segment.specs.Segments.{width_of}
use Rattle.path_segment.proofs.Widths.{width-most}
use Rattle.path_stored.specs.Counts.{Adds}
use Rattle.path_stored.proofs.Spans.{adds-most}
use Rattle.path_stored.proofs.counts.fields_between.Goals as goal

pub loop-at-init : goal.loop-at-init
loop-at-init c = (omega arith, c.requires.order, omega arith)

pub fields_of_few-sum-requires : goal.fields_of_few-sum-requires
fields_of_few-sum-requires c =
    record { span = record { few = c.requires.few; order = omega arith; inside = omega (arith, c.requires.inside) }; short = c.short_end-end.ensures.short }

pub overflow_add-sum : goal.overflow_add-sum
overflow_add-sum c =
    let more : Adds width_of c.args.kinds.now c.args.from c.short_end-end.result (c.loop-at.sum + c.fields_of_few-sum.result) = omega (arith, c.loop-at.invariant.2, c.fields_of_few-sum.ensures) in
    let few : c.short_end-end.result ≤ 65536 = omega (arith, c.short_end-end.ensures.within, c.requires.inside, c.requires.few) in
    omega (arith, adds-most width_of width-most _ _ _ _ few more)

pub loop-at-preserved : goal.loop-at-preserved
loop-at-preserved c =
    let more : Adds width_of c.args.kinds.now c.args.from c.short_end-end.result (c.loop-at.sum + c.fields_of_few-sum.result) = omega (arith, c.loop-at.invariant.2, c.fields_of_few-sum.ensures) in
    (omega arith, c.short_end-end.ensures.within, more)

pub returns : goal.returns
returns c =
    let e : c.loop-at.at ≡ c.args.to = omega arith in
    subst (λ (k : ℕ). Adds width_of c.args.kinds.now c.args.from k c.loop-at.sum) e c.loop-at.invariant.2
