-- `station_commands::listing::list` meets its contract. The loop keeps that the commands up to its state are known and their lines are put; the
-- measure is what is left of the text. Assumes nothing.
use native.Mathlib.Omega.{arith}
use mathlib.Core.Path.{◌≡◌, ap, ◌∙◌}
use Rattle.std.specs.Prelude.{None, Ok}
use Rattle.svg_step.proofs.Ahead.{step-ahead}
use Rattle.station_commands.proofs.PlanLaws.{step-as, listing_none, never-refused, listed, line-room, listing-more}
use Rattle.station_commands.proofs.listing.list.Goals as goal

pub loop-step-init : goal.loop-step-init
loop-step-init c = rw c.fresh-reader.ensures (listing_none _ _ _ c.requires.0 c.requires.1)

pub put_command-at-requires : goal.put_command-at-requires
put_command-at-requires c =
    line-room _ _ c.loop-step.out _ c.loop-step.reader c.loop-step.at c.loop-step.invariant _
    (step-as _ _ _ _ _ c.step_at.ensures (c.in-Ok-Some.is ∙ ap Ok c.in-Ok-Some.field-0-is)) c.requires.2

pub loop-step-smaller : goal.loop-step-smaller
loop-step-smaller c = omega (arith, step-ahead _ _ _ (step-as _ _ _ _ _ c.step_at.ensures (c.in-Ok-Some.is ∙ ap Ok c.in-Ok-Some.field-0-is)))

pub loop-step-preserved : goal.loop-step-preserved
loop-step-preserved c =
    listing-more _ _ c.loop-step.out _ c.loop-step.reader c.loop-step.at c.loop-step.invariant _
    (step-as _ _ _ _ _ c.step_at.ensures (c.in-Ok-Some.is ∙ ap Ok c.in-Ok-Some.field-0-is)) _ _ c.put_command-at.ensures

pub returns-in_default : goal.returns-in_default
returns-in_default c =
    let none : c.in_default.field-0 ≡ None = cc c.in_default.ensures in
    listed _ _ c.loop-step.out _ c.loop-step.reader c.loop-step.at c.loop-step.invariant (step-as _ _ _ _ _ c.step_at.ensures (c.in_default.is ∙ ap Ok none))

pub returns-in_default-2 : goal.returns-in_default-2
returns-in_default-2 c =
    absurd (never-refused _ _ c.loop-step.out _ c.loop-step.reader c.loop-step.at c.loop-step.invariant _ (step-as _ _ _ _ _ c.step_at.ensures c.in_default.is))
