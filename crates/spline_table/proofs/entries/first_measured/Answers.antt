-- The invariant: the sample at k and the running length at it are known, and each entry so far is finite (`Finding`). Assumes nothing.
use mathlib.Core.Path.{sym, ap, ◌∙◌}
use Prim.Native.Nat.{◌+◌}
use lib.Ieee.{binary32, add}
use Rattle.floats.specs.Floats.{zero_f}
use Rattle.table_samples.specs.Samples.{sample_at}
use Rattle.spline.specs.Formula.{spline_sample_of}
use Rattle.spline_table.specs.Rows.{walk_of, Walking}
use Rattle.spline_table.proofs.Passing.{walking_start, walking-more}
use Rattle.spline_table.proofs.Finding.{finding-start, finding-more, finding-ends, finding-none}
use Rattle.spline_table.proofs.entries.first_measured.Goals as goal

pub loop-k-init : goal.loop-k-init
unfolding sample_at zero_f
loop-k-init c = finding-start {formula = spline_sample_of c.args.points.now} (walking_start _ (c.sample-previous.ensures ∙ ap (spline_sample_of _) c.mark.ensures))

pub loop-k-preserved : goal.loop-k-preserved
unfolding sample_at
loop-k-preserved c = finding-more c.loop-k.invariant ((let walked_here : Walking (spline_sample_of c.args.points.now) c.args.last (walk_of c.sample-current.result (add binary32 c.loop-k.total c.distance-total.result)) (c.loop-k.k + 1) = walking-more c.loop-k.invariant.walking c.loop-k-test.true _ _ (c.sample-current.ensures ∙ ap (spline_sample_of _) c.mark-in-loop-k.ensures) c.distance-total.ensures in walked_here)) (sym c.is_finite.ensures ∙ c.if-not-is_finite.false)

pub returns-then-not-is_finite : goal.returns-then-not-is_finite
unfolding sample_at
returns-then-not-is_finite c = finding-ends c.loop-k.invariant ((let walked_here : Walking (spline_sample_of c.args.points.now) c.args.last (walk_of c.sample-current.result (add binary32 c.loop-k.total c.distance-total.result)) (c.loop-k.k + 1) = walking-more c.loop-k.invariant.walking c.loop-k-test.true _ _ (c.sample-current.ensures ∙ ap (spline_sample_of _) c.mark-in-loop-k.ensures) c.distance-total.ensures in walked_here)) (sym c.is_finite.ensures ∙ c.if-not-is_finite.true)

pub returns : goal.returns
returns c = finding-none c.loop-k.invariant c.loop-k-test.false
