-- `decimal_digits::gathering::gather_many` meets its contract. The invariant: the digits up to `at` are taken into `held`. The measure is what is left of the text.
-- Assumes nothing.
use mathlib.Core.Bool.{not}
use mathlib.Core.Path.{ap}
use Rattle.std.proofs.Common.{ℕ, ◌+◌, ◌*◌, sym, refl, subst, le_trans, arith}
use borrow.Author.Tests.{not-false}
use Rattle.decimal_digits.specs.Leading.{Takes}
use Rattle.decimal_digits.proofs.Taking.{takes_none, takes-on, takes_run, run-ended, run-bounds, Bounds, gathers-on, gathers-none}
use Rattle.decimal_digits.proofs.gathering.gather_many.Goals as goal

pub loop-held-init : goal.loop-held-init
loop-held-init c = takes_none _ _ _

pub run_at-run-requires : goal.run_at-run-requires
run_at-run-requires c = c.has.ensures (not-false _ (ap not c.if-not-has.false))

pub power-requires : goal.power-requires
power-requires c = (run-bounds c.args.text.now c.loop-held.at 0 _ _ _ c.run_at-run.ensures.count c.run_at-run.ensures.value refl).few

pub overflow_mul-held : goal.overflow_mul-held
overflow_mul-held c = record {
  fits = let b = (let bounds_here : Bounds c.loop-held.held c.run_at-run.result.count c.power.result c.run_at-run.result.value = run-bounds c.args.text.now c.loop-held.at _ _ _ _
      c.run_at-run.ensures.count c.run_at-run.ensures.value c.power.ensures in bounds_here) in omega (arith, b.product, c.loop-held-test.true);
}

pub overflow_add-held : goal.overflow_add-held
overflow_add-held c = record {
  fits = let b = (let bounds_here : Bounds c.loop-held.held c.run_at-run.result.count c.power.result c.run_at-run.result.value = run-bounds c.args.text.now c.loop-held.at _ _ _ _
      c.run_at-run.ensures.count c.run_at-run.ensures.value c.power.ensures in bounds_here) in omega (arith, b.product, b.value, c.loop-held-test.true);
}

pub overflow_add-at : goal.overflow_add-at
overflow_add-at c = let b = (let bounds_here : Bounds c.loop-held.held c.run_at-run.result.count c.power.result c.run_at-run.result.value = run-bounds c.args.text.now c.loop-held.at _ _ _ _
    c.run_at-run.ensures.count c.run_at-run.ensures.value c.power.ensures in bounds_here) in omega (arith, b.few, c.has.ensures (not-false _ (ap not c.if-not-has.false)))

pub returns-then-count-lt8 : goal.returns-then-count-lt8
returns-then-count-lt8 c =
    let inside = c.has.ensures (not-false _ (ap not c.if-not-has.false)) in
    let t = (let taken_here : Takes c.args.text.now c.args.from c.args.w (c.loop-held.at + c.run_at-run.result.count) (c.loop-held.held * c.power.result + c.run_at-run.result.value) = let inside = c.has.ensures (not-false _ (ap not c.if-not-has.false)) in
    takes-on c.args.text.now _ _ c.loop-held.at c.loop-held.held _ _ c.loop-held.invariant
    (subst (λ (p : ℕ). Takes c.args.text.now c.loop-held.at c.loop-held.held (c.loop-held.at + c.run_at-run.result.count) (c.loop-held.held * p + c.run_at-run.result.value)) (sym c.power.ensures)
    (takes_run c.args.text.now c.loop-held.at inside c.run_at-run.result.count c.run_at-run.ensures.count c.loop-held.held c.run_at-run.result.value c.loop-held-test.true c.run_at-run.ensures.value)) in taken_here) in
    gathers-on c.args.text.now _ _ _ _ _ _ t (gathers-none c.args.text.now _ _ _ (run-ended c.args.text.now c.loop-held.at inside c.run_at-run.result.count c.run_at-run.ensures.count c.if-count-lt8.true) (le_trans c.requires t.onward))

pub loop-held-smaller : goal.loop-held-smaller
loop-held-smaller c = omega (arith, c.if-count-lt8.false, c.has.ensures (not-false _ (ap not c.if-not-has.false)))

pub loop-held-preserved : goal.loop-held-preserved
loop-held-preserved c = (let taken_here : Takes c.args.text.now c.args.from c.args.w (c.loop-held.at + c.run_at-run.result.count) (c.loop-held.held * c.power.result + c.run_at-run.result.value) = let inside = c.has.ensures (not-false _ (ap not c.if-not-has.false)) in
    takes-on c.args.text.now _ _ c.loop-held.at c.loop-held.held _ _ c.loop-held.invariant
    (subst (λ (p : ℕ). Takes c.args.text.now c.loop-held.at c.loop-held.held (c.loop-held.at + c.run_at-run.result.count) (c.loop-held.held * p + c.run_at-run.result.value)) (sym c.power.ensures)
    (takes_run c.args.text.now c.loop-held.at inside c.run_at-run.result.count c.run_at-run.ensures.count c.loop-held.held c.run_at-run.result.value c.loop-held-test.true c.run_at-run.ensures.value)) in taken_here)

pub pass_rest-requires : goal.pass_rest-requires
pass_rest-requires c = (le_trans c.requires (le_trans c.loop-held.invariant.onward c.fill-taken.ensures.takes.onward), c.fill-taken.ensures.ended)

pub returns : goal.returns
returns c = gathers-on _ _ _ _ _ _ _ (takes-on _ _ _ _ _ _ _ c.loop-held.invariant c.fill-taken.ensures.takes) c.pass_rest.ensures
