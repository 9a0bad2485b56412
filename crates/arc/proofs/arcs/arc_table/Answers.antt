-- `table_of` sums the steps between the samples with the arc's own turn. Assumes nothing.
use borrow.Author.Rules.{rules}
use mathlib.Core.Path.{◌≡◌, ap, ◌∙◌}
use Rattle.trig.specs.declared.SinCos.{SinCos}
use Rattle.table_samples.specs.Samples.{steps_of}
use Rattle.table_samples.proofs.Steps.{table_is}
use Rattle.ellipse.specs.declared.ends.Arc.{Arc}
use Rattle.ellipse.specs.Turn.{turn_of}
use Rattle.ellipse.specs.Shape.{point_turned, point_on}
use Rattle.arc.proofs.arcs.arc_table.Goals as goal

own_turn : (shape : Arc) (turn : SinCos) → turn ≡ turn_of shape.x_axis_rotation → steps_of (point_turned shape turn) 31 ≡ steps_of (point_on shape) 31
unfolding point_on
own_turn shape turn e = ap (λ (t : SinCos). steps_of (point_turned shape t) 31) e

pub returns : goal.returns
returns c = table_is _ _ _ (c.arc_steps.ensures ∙ own_turn _ _ c.turn_of.ensures) c.table_of.ensures.entries c.table_of.ensures.total
