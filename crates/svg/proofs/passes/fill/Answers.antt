-- `svg::passes::fill` meets its contract. The loop keeps that the commands up to its place are known and stored; the measure is what is left of
-- the text, of which each step passes a byte. Assumes nothing.
use borrow.Author.Rules.{rules}
use mathlib.Core.Path.{sym, ap, ◌∙◌}
use native.Mathlib.Omega.{arith}
use Rattle.std.specs.Prelude.{Ok}
use Rattle.svg_step.proofs.Ahead.{step-ahead}
use Rattle.svg.proofs.Holding.{held_whole, held-refused, held-within, held-offset, full-of-letters, full-of-numbers, full-of-offsets, holding-more}
use Rattle.svg.proofs.passes.fill.Goals as goal
use Rattle.svg.proofs.passes.fill.Goals.{then-letters-letter_at-via-then-letters-letter_at, then-letters-letter_at-via-else-letters-letter_at+then-numbers-at}
use Rattle.svg.proofs.passes.fill.Goals.{then-letters-letter_at-via-else-letters-letter_at+else-numbers-at+then-offsets-letter_at}

pub loop-refusal-init : goal.loop-refusal-init
loop-refusal-init c = c.requires.1

pub returns-in-Err : goal.returns-in-Err
returns-in-Err c = search (rules, held-refused c.loop-refusal.invariant _ (sym c.read_step.ensures ∙ c.in-Err.is))

pub returns-in-Ok-None : goal.returns-in-Ok-None
returns-in-Ok-None c = held_whole c.loop-refusal.invariant (sym c.read_step.ensures ∙ c.in-Ok-None.is ∙ ap Ok c.in-Ok-None.field-0-is)

pub returns-then-letters-letter_at : goal.returns-then-letters-letter_at
returns-then-letters-letter_at c =
    let e = sym c.read_step.ensures ∙ c.in-Ok-Some.is ∙ ap Ok c.in-Ok-Some.field-0-is in
    elim c.then-letters-letter_at.branch [
      | then-letters-letter_at-via-then-letters-letter_at w ↦ full-of-letters c.loop-refusal.invariant _ e w.if-letters-letter_at.true
      | then-letters-letter_at-via-else-letters-letter_at+then-numbers-at w ↦
          full-of-numbers c.loop-refusal.invariant _ e _ c.width-more.ensures (omega (arith, w.if-numbers-at.true, held-within c.loop-refusal.invariant))
      | then-letters-letter_at-via-else-letters-letter_at+else-numbers-at+then-offsets-letter_at w ↦ full-of-offsets c.loop-refusal.invariant _ e w.if-offsets-letter_at.true
    ]

pub overflow_cast-offsets : goal.overflow_cast-offsets
overflow_cast-offsets c = omega (arith, held-offset c.loop-refusal.invariant _ (sym c.read_step.ensures ∙ c.in-Ok-Some.is ∙ ap Ok c.in-Ok-Some.field-0-is), c.requires.0)

pub loop-refusal-smaller : goal.loop-refusal-smaller
loop-refusal-smaller c = omega (arith, step-ahead _ _ _ (sym c.read_step.ensures ∙ c.in-Ok-Some.is ∙ ap Ok c.in-Ok-Some.field-0-is))

pub loop-refusal-preserved : goal.loop-refusal-preserved
loop-refusal-preserved c =
    holding-more c.loop-refusal.invariant _ (sym c.read_step.ensures ∙ c.in-Ok-Some.is ∙ ap Ok c.in-Ok-Some.field-0-is) _ c.width-more.ensures
    (omega (arith, c.if-letters-letter_at.false)) (omega (arith, c.if-numbers-at.false, held-within c.loop-refusal.invariant)) (omega (arith, c.if-offsets-letter_at.false)) c.store.ensures
