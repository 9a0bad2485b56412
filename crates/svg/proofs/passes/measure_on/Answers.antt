-- `svg::passes::measure_on` meets its contract. The loop keeps that the commands up to its place are known and counted; the measure is what is
-- left of the text, of which each step passes a byte. Assumes nothing.
use mathlib.Core.Path.{sym, ap, ◌∙◌}
use borrow.Author.Rules.{rules}
use native.Mathlib.Omega.{arith}
use Rattle.std.specs.Prelude.{Ok}
use Rattle.svg.proofs.Passing.{passing-from, passed-done, passed-refused, passing-within, passing-more}
use Rattle.svg.proofs.passes.measure_on.Goals as goal

pub loop-pass-init : goal.loop-pass-init
loop-pass-init c = passing-from c.requires.1

pub returns-in_err-pass : goal.returns-in_err-pass
returns-in_err-pass c = search (rules, passed-refused c.loop-pass.invariant _ (sym c.pass_step.ensures ∙ c.in_err-pass.was))

pub overflow_add-counts : goal.overflow_add-counts
overflow_add-counts c = omega (arith, passing-within c.loop-pass.invariant (sym c.pass_step.ensures ∙ c.in_ok-pass.was ∙ ap Ok c.in-Some.is), c.requires.0)

pub overflow_add-counts-in-Some : goal.overflow_add-counts-in-Some
overflow_add-counts-in-Some c = omega (arith, passing-within c.loop-pass.invariant (sym c.pass_step.ensures ∙ c.in_ok-pass.was ∙ ap Ok c.in-Some.is), c.requires.0)

pub loop-pass-smaller : goal.loop-pass-smaller
loop-pass-smaller c = omega (arith, passing-within c.loop-pass.invariant (sym c.pass_step.ensures ∙ c.in_ok-pass.was ∙ ap Ok c.in-Some.is))

pub loop-pass-preserved : goal.loop-pass-preserved
loop-pass-preserved c = passing-more c.loop-pass.invariant (sym c.pass_step.ensures ∙ c.in_ok-pass.was ∙ ap Ok c.in-Some.is)

pub returns : goal.returns
returns c = passed-done c.loop-pass.invariant (sym c.pass_step.ensures ∙ c.in_ok-pass.was ∙ ap Ok c.in_default.is)
