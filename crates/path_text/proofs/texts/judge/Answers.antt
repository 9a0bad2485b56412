-- `path_text::texts::judge` meets its contract. Assumes nothing.
use mathlib.Core.Path.{sym, ap, ◌∙◌}
use Rattle.std.specs.Prelude.{Ok}
use native.Mathlib.Omega.{arith}
use Rattle.svg_step.proofs.Ahead.{step-ahead}
use Rattle.path_text.proofs.Steps.{measuring-none, measured-all, measured-unread, measuring-few, measured-unbuilt, measuring-more}
use Rattle.path_text.proofs.texts.judge.Goals as goal

pub loop-step-init : goal.loop-step-init
loop-step-init c = rw (c.fresh-reader.ensures, c.start-site.ensures) (measuring-none _)

pub returns-in-Ok-None : goal.returns-in-Ok-None
returns-in-Ok-None c = measured-all c.loop-step.invariant (sym c.read_step.ensures ∙ c.in-Ok-None.is ∙ ap Ok c.in-Ok-None.field-0-is)

pub returns-in-Err : goal.returns-in-Err
returns-in-Err c = measured-unread c.loop-step.invariant (sym c.read_step.ensures ∙ c.in-Err.is)

pub advance-requires : goal.advance-requires
advance-requires c = measuring-few c.loop-step.invariant (sym c.read_step.ensures ∙ c.in-Ok-Some.is ∙ ap Ok c.in-Ok-Some.field-0-is) c.requires

pub loop-step-smaller : goal.loop-step-smaller
loop-step-smaller c = omega (arith, step-ahead _ _ _ (sym c.read_step.ensures ∙ c.in-Ok-Some.is ∙ ap Ok c.in-Ok-Some.field-0-is))

pub returns-in-Err-advance : goal.returns-in-Err-advance
returns-in-Err-advance c =
    measured-unbuilt c.loop-step.invariant (sym c.read_step.ensures ∙ c.in-Ok-Some.is ∙ ap Ok c.in-Ok-Some.field-0-is) (sym c.advance.ensures ∙ c.in-Err-advance.is)

pub loop-step-preserved : goal.loop-step-preserved
loop-step-preserved c =
    measuring-more c.loop-step.invariant (sym c.read_step.ensures ∙ c.in-Ok-Some.is ∙ ap Ok c.in-Ok-Some.field-0-is) (sym c.advance.ensures ∙ c.in-Ok.is)
