-- `path_text::texts::survey` meets its contract. Assumes nothing.
use mathlib.Core.Path.{sym, ap, ◌∙◌}
use Rattle.std.specs.Prelude.{Ok}
use native.Mathlib.Omega.{arith}
use Rattle.svg_step.proofs.Ahead.{step-ahead}
use Rattle.path_text.proofs.Steps.{surveying-none, surveyed-all, surveying-few, surveying-more}
use Rattle.path_text.proofs.texts.survey.Goals as goal

pub loop-step-init : goal.loop-step-init
loop-step-init c = rw (c.fresh-reader.ensures, c.opening-tally.ensures) (surveying-none _)

pub returns-in-Ok-None : goal.returns-in-Ok-None
returns-in-Ok-None c = surveyed-all c.loop-step.invariant (sym c.read_step.ensures ∙ c.in-Ok-None.is ∙ ap Ok c.in-Ok-None.field-0-is)

pub count-requires : goal.count-requires
count-requires c = surveying-few c.loop-step.invariant (sym c.read_step.ensures ∙ c.in-Ok-Some.is ∙ ap Ok c.in-Ok-Some.field-0-is) c.requires

pub loop-step-smaller : goal.loop-step-smaller
loop-step-smaller c = omega (arith, step-ahead _ _ _ (sym c.read_step.ensures ∙ c.in-Ok-Some.is ∙ ap Ok c.in-Ok-Some.field-0-is))

pub loop-step-preserved : goal.loop-step-preserved
loop-step-preserved c = surveying-more c.loop-step.invariant (sym c.read_step.ensures ∙ c.in-Ok-Some.is ∙ ap Ok c.in-Ok-Some.field-0-is) c.requires (sym c.count.ensures ∙ c.in_ok-tally-in-Ok-Some.was)
