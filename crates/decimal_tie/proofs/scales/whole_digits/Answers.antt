-- `decimal_tie::scales::whole_digits` meets its contract: each digit goes from those to come to those gathered. Assumes nothing.
use mathlib.Core.Path.{◌≡◌, ap, sym, ◌∙◌}
use mathlib.Core.List.{List}
use Prim.Native.Nat.{ℕ, ◌+◌, ◌-◌, ◌*◌}
use native.Mathlib.Omega.{arith}
use lib.ListN.{drop}
use Rattle.decimal_digits.specs.Digits.{digits_among}
use Rattle.decimal_tie.specs.Weighing.{partly, others, Takes}
use Rattle.decimal_tie.specs.declared.scales.Taken.{Taken}
use Rattle.decimal_tie.proofs.Wides.{tens-none, tens-past}
use Rattle.decimal_tie.proofs.Weighed.{partly-on, partly-beyond}
use Rattle.decimal_tie.proofs.scales.whole_digits.Goals as goal

onward :
    (part : List ℕ) (at w count more s : ℕ) (d : Taken) → Takes part at d → count ≡ more + 1
    → partly w (digits_among (drop at part)) count s ≡ partly (w * 10 + d.digit) (digits_among (drop d.at part)) more s
onward part at w count more s d taken one =
    partly-on w _ count more s (omega (arith, one))
    ∙ ap (λ (x : ℕ). partly (w * 10 + x) (others (digits_among (drop at part))) more s) (sym taken.digit-is)
    ∙ ap (λ (ds : List ℕ). partly (w * 10 + d.digit) ds more s) (sym taken.rest-is)

pub returns-then-t-gt0 : goal.returns-then-t-gt0
returns-then-t-gt0 c =
    record {
      said = λ s h.
          c.digits.invariant.1 s
          ∙ onward _ _ _ _ (c.args.count - (c.digits.counter + 1)) s _ c.take-d.ensures (omega (arith, c.digits-test.true))
          ∙ partly-beyond _ _ _ s (tens-past _ _ _ c.times_ten-t.ensures c.if-t-gt0.true) h;
    }

pub digits-preserved : goal.digits-preserved
digits-preserved c =
    let rest = digits_among (drop c.take-d.result.at c.args.part.now) in
    let more = c.args.count - (c.digits.counter + 1) in (
      c.times_ten-t.ensures.small,
      λ s.
          c.digits.invariant.1 s
          ∙ onward _ _ _ _ more s _ c.take-d.ensures (omega (arith, c.digits-test.true))
          ∙ ap (λ (w : ℕ). partly w rest more s) (tens-none _ _ _ c.times_ten-t.ensures c.if-t-gt0.false),
    )
