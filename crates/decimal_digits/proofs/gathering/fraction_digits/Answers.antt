-- `decimal_digits::gathering::fraction_digits` meets its contract: the digits that eight bytes begin with, and the others one by one. Assumes nothing.
use Rattle.std.proofs.Common.{ℕ, ◌+◌, ◌*◌, ◌≤◌, length, sym, refl, subst, arith}
use Rattle.decimal_digits.specs.Leading.{Takes}
use Rattle.decimal_digits.proofs.Taking.{takes-on, takes_run, run-ended, run-bounds, Bounds}
use Rattle.decimal_digits.proofs.gathering.fraction_digits.Goals as goal

pub run_at-run-requires : goal.run_at-run-requires
run_at-run-requires c = c.has.ensures c.if-has.true

pub overflow_add-at : goal.overflow_add-at
overflow_add-at c = record { fits = omega (arith, (let few_here : c.run_at-run.result.count ≤ 8 = (run-bounds c.args.text.now c.args.from 0 _ _ _ c.run_at-run.ensures.count c.run_at-run.ensures.value refl).few in few_here), (let inside_here : c.args.from + 8 ≤ length c.args.text.now = c.has.ensures c.if-has.true in inside_here), c.well_formed) }

pub power-requires : goal.power-requires
power-requires c = (let few_here : c.run_at-run.result.count ≤ 8 = (run-bounds c.args.text.now c.args.from 0 _ _ _ c.run_at-run.ensures.count c.run_at-run.ensures.value refl).few in few_here)

pub overflow_mul-held : goal.overflow_mul-held
overflow_mul-held c = record { fits = let b = (let bounds_here : Bounds c.args.w c.run_at-run.result.count c.power.result c.run_at-run.result.value = run-bounds c.args.text.now c.args.from _ _ _ _ c.run_at-run.ensures.count c.run_at-run.ensures.value c.power.ensures in bounds_here) in omega (arith, b.product, c.if-w-lt100000000000.true) }

pub overflow_add-held : goal.overflow_add-held
overflow_add-held c = record { fits = let b = (let bounds_here : Bounds c.args.w c.run_at-run.result.count c.power.result c.run_at-run.result.value = run-bounds c.args.text.now c.args.from _ _ _ _ c.run_at-run.ensures.count c.run_at-run.ensures.value c.power.ensures in bounds_here) in omega (arith, b.product, b.value, c.if-w-lt100000000000.true) }

pub returns-then-count-lt8 : goal.returns-then-count-lt8
returns-then-count-lt8 c =
    record {
      takes = (let taken_here : Takes c.args.text.now c.args.from c.args.w (c.args.from + c.run_at-run.result.count) (c.args.w * c.power.result + c.run_at-run.result.value) = subst (λ (p : ℕ). Takes c.args.text.now c.args.from c.args.w (c.args.from + c.run_at-run.result.count) (c.args.w * p + c.run_at-run.result.value)) (sym c.power.ensures)
          (takes_run c.args.text.now c.args.from ((let inside_here : c.args.from + 8 ≤ length c.args.text.now = c.has.ensures c.if-has.true in inside_here)) c.run_at-run.result.count c.run_at-run.ensures.count c.args.w c.run_at-run.result.value c.if-w-lt100000000000.true c.run_at-run.ensures.value) in taken_here);
      ended = λ small. run-ended _ _ ((let inside_here : c.args.from + 8 ≤ length c.args.text.now = c.has.ensures c.if-has.true in inside_here)) c.run_at-run.result.count c.run_at-run.ensures.count c.if-count-lt8.true;
    }

pub returns-then-has : goal.returns-then-has
returns-then-has c =
    record {
      takes = takes-on _ _ _ _ _ _ _ ((let taken_here : Takes c.args.text.now c.args.from c.args.w (c.args.from + c.run_at-run.result.count) (c.args.w * c.power.result + c.run_at-run.result.value) = subst (λ (p : ℕ). Takes c.args.text.now c.args.from c.args.w (c.args.from + c.run_at-run.result.count) (c.args.w * p + c.run_at-run.result.value)) (sym c.power.ensures)
          (takes_run c.args.text.now c.args.from ((let inside_here : c.args.from + 8 ≤ length c.args.text.now = c.has.ensures c.if-has.true in inside_here)) c.run_at-run.result.count c.run_at-run.ensures.count c.args.w c.run_at-run.result.value c.if-w-lt100000000000.true c.run_at-run.ensures.value) in taken_here)) c.fill.ensures.takes;
      ended = c.fill.ensures.ended;
    }
