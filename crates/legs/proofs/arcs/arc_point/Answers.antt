-- `legs::arc_point` meets its contract: the ends give way to the arc's own. Assumes nothing.
use mathlib.Core.Path.{ap, ◌∙◌}
use borrow.Author.Tests.{ne_eqb}
use Rattle.table_samples.specs.Samples.{sample_at}
use Rattle.ellipse.specs.Shape.{point_on}
use Rattle.legs.specs.Segments.{arc_point}
use Rattle.legs.proofs.arcs.arc_point.Goals as goal

pub returns : goal.returns
unfolding arc_point sample_at
returns c = rw (ne_eqb _ _ c.if-i-eq0.false, ne_eqb _ _ c.if-i-eq31.false) (c.arc_sample.ensures ∙ ap (point_on _) c.mark.ensures)
