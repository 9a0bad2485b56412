-- `path_stored::counts::fields_of_few` meets its contract. The invariant: the counts are of the segments before j. The measure is the segments left. Assumes nothing.
use mathlib.Core.Path.{◌≡◌, ap}
use native.Mathlib.Omega.{arith}
use lib.ListN.{get_or}
use Rattle.path_segment.specs.Segments.{width_of}
use Rattle.path_stored.specs.Stored.{before}
use Rattle.path_stored.proofs.Spans.{fields-start, fields-more, one_at_most}
use Rattle.path_stored.proofs.counts.fields_of_few.Goals as goal

pub loop-j-init : goal.loop-j-init
loop-j-init c = (omega arith, c.requires.span.order, fields-start c.args.kinds.now c.args.from)

-- a byte holds 128 and one more
pub overflow_add-from1 : goal.overflow_add-from1
overflow_add-from1 c =
    omega (arith, c.loop-j.invariant.2.few1, c.requires.short, one_at_most 1 (get_or c.args.kinds.now c.loop-j.j 0), c.one_from-from1.ensures)

pub overflow_add-from2 : goal.overflow_add-from2
overflow_add-from2 c =
    omega (arith, c.loop-j.invariant.2.few2, c.requires.short, one_at_most 2 (get_or c.args.kinds.now c.loop-j.j 0), c.one_from-from2.ensures)

pub overflow_add-from3 : goal.overflow_add-from3
overflow_add-from3 c =
    omega (arith, c.loop-j.invariant.2.few3, c.requires.short, one_at_most 3 (get_or c.args.kinds.now c.loop-j.j 0), c.one_from-from3.ensures)

pub overflow_add-from5 : goal.overflow_add-from5
overflow_add-from5 c =
    omega (arith, c.loop-j.invariant.2.few5, c.requires.short, one_at_most 5 (get_or c.args.kinds.now c.loop-j.j 0), c.one_from-from5.ensures)

pub loop-j-preserved : goal.loop-j-preserved
loop-j-preserved c = (
  omega arith,
  omega arith,
  fields-more _ _ _ _ c.loop-j.invariant.2 c.loop-j.invariant.0 (omega (arith, c.requires.span.inside))
      c.one_from-from1.ensures c.one_from-from2.ensures c.one_from-from3.ensures c.one_from-from5.ensures,
)

pub returns : goal.returns
returns c =
    let e : c.loop-j.j ≡ c.args.to = omega arith in
    omega (arith, c.loop-j.invariant.2.sum, c.loop-j.invariant.2.grows, ap (before width_of c.args.kinds.now) e, c.wide-4.ensures, c.wide-3.ensures, c.wide-2.ensures, c.wide.ensures)
