-- The invariant: the differences before i are in, and the sample made last is the one at k + i (`Crossing`). Assumes nothing.
use mathlib.Core.Path.{refl, ap, ◌∙◌}
use Rattle.table_samples.specs.Samples.{sample_at}
use Rattle.spline.specs.Formula.{spline_sample_of}
use Rattle.spline_table.proofs.Crossing.{crossing-start, crossing-more, crossing-done}
use Rattle.spline_table.proofs.rows.one_by_one.Goals as goal

pub loop-i-init : goal.loop-i-init
loop-i-init c = crossing-start _ refl refl c.requires.here

pub loop-i-preserved : goal.loop-i-preserved
unfolding sample_at
loop-i-preserved c =
    crossing-more c.loop-i.invariant c.loop-i-test.true _ _ refl (c.sample-next.ensures ∙ ap (spline_sample_of _) c.mark.ensures)

pub returns : goal.returns
returns c = crossing-done c.loop-i.invariant c.loop-i-test.false
