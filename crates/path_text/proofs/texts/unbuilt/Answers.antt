-- `path_text::texts::unbuilt` meets its contract. Assumes nothing.
use mathlib.Core.Path.{sym, ap, ◌∙◌}
use Rattle.std.specs.Prelude.{Ok}
use mathlib.Core.List.{[]}
use native.Mathlib.Omega.{arith}
use Rattle.svg_step.proofs.Ahead.{step-ahead}
use Rattle.svg.proofs.PassLaws.{known-none, known-all, known-refused, known_more}
use Rattle.path_text.proofs.Entering.{unread-size, unbuilt-size}
use Rattle.path_text.proofs.texts.unbuilt.Goals as goal

pub loop-step-init : goal.loop-step-init
loop-step-init c = rw c.fresh-reader.ensures ([], known-none _)

pub returns-in-Ok-None : goal.returns-in-Ok-None
returns-in-Ok-None c = unbuilt-size _ c.requires.1 (known-all _ _ _ c.loop-step.invariant.1 (sym c.read_step.ensures ∙ c.in-Ok-None.is ∙ ap Ok c.in-Ok-None.field-0-is))

pub returns-in-Err : goal.returns-in-Err
returns-in-Err c = unread-size _ (known-refused _ _ _ c.loop-step.invariant.1 _ (sym c.read_step.ensures ∙ c.in-Err.is))

pub loop-step-smaller : goal.loop-step-smaller
loop-step-smaller c = omega (arith, step-ahead _ _ _ (sym c.read_step.ensures ∙ c.in-Ok-Some.is ∙ ap Ok c.in-Ok-Some.field-0-is))

pub loop-step-preserved : goal.loop-step-preserved
loop-step-preserved c = (_, known_more _ _ _ c.loop-step.invariant.1 _ (sym c.read_step.ensures ∙ c.in-Ok-Some.is ∙ ap Ok c.in-Ok-Some.field-0-is))
