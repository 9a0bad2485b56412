-- `path_stored::counts::tables_of_few` meets its contract. The invariant: the sum is of the segments before j. The measure is the segments left. Assumes nothing.
use mathlib.Core.Path.{◌≡◌, subst}
use Prim.Native.Nat.{ℕ, ◌+◌}
use native.Mathlib.Omega.{arith}
use Rattle.path_segment.specs.Segments.{tables_of}
use Rattle.path_stored.specs.Counts.{Adds}
use Rattle.path_stored.proofs.Spans.{Tabling, tabling-start, tabling-more}
use Rattle.path_stored.proofs.counts.tables_of_few.Goals as goal

pub loop-j-init : goal.loop-j-init
loop-j-init c = (omega arith, c.requires.span.order, tabling-start c.args.kinds.now c.args.from)

pub overflow_add-sum : goal.overflow_add-sum
overflow_add-sum c =
    let more : Tabling c.args.kinds.now c.args.from (c.loop-j.j + 1) (c.loop-j.sum + c.one_table-sum.result) = tabling-more c.one_table-sum.result c.loop-j.invariant.2 c.loop-j.invariant.0 (omega (arith, c.requires.span.inside)) c.one_table-sum.ensures in
    omega (arith, more.few, c.requires.short)

pub loop-j-preserved : goal.loop-j-preserved
loop-j-preserved c =
    let more : Tabling c.args.kinds.now c.args.from (c.loop-j.j + 1) (c.loop-j.sum + c.one_table-sum.result) = tabling-more c.one_table-sum.result c.loop-j.invariant.2 c.loop-j.invariant.0 (omega (arith, c.requires.span.inside)) c.one_table-sum.ensures in
    (omega arith, omega arith, more)

pub returns : goal.returns
returns c =
    let e : c.loop-j.j ≡ c.args.to = omega arith in
    let s : c.loop-j.sum ≡ c.wide.result = omega arith in
    subst (λ (k : ℕ). Adds tables_of c.args.kinds.now c.args.from k c.wide.result) e
    (subst (λ (n : ℕ). Adds tables_of c.args.kinds.now c.args.from c.loop-j.j n) s c.loop-j.invariant.2.adds)
