-- `path_text::texts::fill` meets its contract. Assumes nothing.
use mathlib.Core.Path.{sym, ap, ◌∙◌}
use Rattle.std.specs.Prelude.{Ok}
use native.Mathlib.Omega.{arith}
use Rattle.svg_step.proofs.Ahead.{step-ahead}
use Rattle.path_text.proofs.Steps.{storing-none, storing-unread, stored-all, storing-room, storing-number, storing-more}
use Rattle.path_text.proofs.texts.fill.Goals as goal

pub loop-step-init : goal.loop-step-init
loop-step-init c = rw (c.fresh-reader.ensures, c.start-site.ensures) (storing-none _ _)

pub lay-site-requires : goal.lay-site-requires
lay-site-requires c = storing-room c.loop-step.invariant c.requires (sym c.read_step.ensures ∙ c.in-Ok-Some.is ∙ ap Ok c.in-Ok-Some.field-0-is)

pub overflow_add-number : goal.overflow_add-number
overflow_add-number c =
    omega (arith, storing-number c.loop-step.invariant c.requires (sym c.read_step.ensures ∙ c.in-Ok-Some.is ∙ ap Ok c.in-Ok-Some.field-0-is))

pub loop-step-smaller : goal.loop-step-smaller
loop-step-smaller c = omega (arith, step-ahead _ _ _ (sym c.read_step.ensures ∙ c.in-Ok-Some.is ∙ ap Ok c.in-Ok-Some.field-0-is))

pub loop-step-preserved : goal.loop-step-preserved
loop-step-preserved c =
    storing-more c.loop-step.invariant c.requires (sym c.read_step.ensures ∙ c.in-Ok-Some.is ∙ ap Ok c.in-Ok-Some.field-0-is) c.lay-site.ensures

pub returns-in-Ok-None : goal.returns-in-Ok-None
returns-in-Ok-None c = stored-all c.loop-step.invariant c.requires (sym c.read_step.ensures ∙ c.in-Ok-None.is ∙ ap Ok c.in-Ok-None.field-0-is)

pub returns-in-Err : goal.returns-in-Err
returns-in-Err c = absurd (storing-unread c.loop-step.invariant c.requires (sym c.read_step.ensures ∙ c.in-Err.is))
