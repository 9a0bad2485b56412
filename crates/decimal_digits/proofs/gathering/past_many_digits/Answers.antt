-- `decimal_digits::gathering::past_many_digits` meets its contract. The invariant: the run from `at` ends where the run from `from` does. The measure is what is left of the
-- text. Assumes nothing.
use Rattle.std.proofs.Common.{◌≡◌, ◌+◌, sym, refl, ap, ◌∙◌, arith}
use Rattle.scan.specs.Runs.{past_digits_of}
use Rattle.decimal_digits.proofs.Lanes.{both}
use Rattle.decimal_digits.proofs.Taking.{run-same}
use Rattle.decimal_digits.proofs.gathering.past_many_digits.Goals as goal

pub loop-at-init : goal.loop-at-init
loop-at-init c = refl

pub all_digits-requires : goal.all_digits-requires
all_digits-requires c = omega (arith, c.has.ensures c.loop-at-test.true)

pub overflow_add-at : goal.overflow_add-at
overflow_add-at c = omega (arith, c.has.ensures c.loop-at-test.true)

pub all_digits-requires-in-loop-at : goal.all_digits-requires-in-loop-at
all_digits-requires-in-loop-at c = omega (arith, c.has.ensures c.loop-at-test.true)

pub overflow_add-at-then-all_digits : goal.overflow_add-at-then-all_digits
overflow_add-at-then-all_digits c = omega (arith, c.has.ensures c.loop-at-test.true)

pub loop-at-smaller : goal.loop-at-smaller
loop-at-smaller c = omega (arith, c.has.ensures c.loop-at-test.true)

pub loop-at-preserved : goal.loop-at-preserved
loop-at-preserved c =
    let inside = c.has.ensures c.loop-at-test.true in
    let t = both c.all_digits.result c.all_digits-in-loop-at.result c.if-all_digits.true in
    let on : c.loop-at.at + 16 ≡ c.loop-at.at + 8 + 8 = omega arith in
    ap (past_digits_of c.args.text.now) on
    ∙ run-same c.args.text.now (c.loop-at.at + 8) (omega (arith, inside)) 8 (sym (c.all_digits-in-loop-at.ensures t.1))
    ∙ run-same c.args.text.now c.loop-at.at (omega (arith, inside)) 8 (sym (c.all_digits.ensures t.0))
    ∙ c.loop-at.invariant

pub returns : goal.returns
returns c = c.past_digits.ensures ∙ c.loop-at.invariant
