-- `decimal_digits::gathering::fill` meets its contract. Assumes nothing.
use Rattle.std.proofs.Common.{◌≡◌, ℕ, ◌+◌, ◌*◌, sym, ◌∙◌, subst, arith}
use Rattle.scan.specs.Bytes.{digits}
use Rattle.scan.proofs.ByteLaws.{digit-range}
use Rattle.scan.proofs.RunLaws.{all-stop, all_end}
use Rattle.decimal_digits.specs.Leading.{Takes}
use Rattle.decimal_digits.proofs.Values.{digit_lt}
use Rattle.decimal_digits.proofs.Taking.{takes_none, takes-on, takes-digit}
use Rattle.decimal_digits.proofs.gathering.fill.Goals as goal
use Rattle.decimal_digits.proofs.gathering.fill.Goals.{then-held-ge1000000000000000000-via-then-held-ge1000000000000000000, then-held-ge1000000000000000000-via-else-held-ge1000000000000000000+then-not-is_digit}

pub loop-at-init : goal.loop-at-init
loop-at-init c = (omega arith, takes_none _ _ _)

pub digit-requires : goal.digit-requires
digit-requires c = digit-range _ (sym c.is_digit.ensures ∙ c.if-not-is_digit.false)

pub overflow_add-held : goal.overflow_add-held
overflow_add-held c = record {
  fits = omega (arith, c.digit.ensures, c.if-held-ge1000000000000000000.false, digit_lt _ (sym c.is_digit.ensures ∙ c.if-not-is_digit.false));
}

pub loop-at-preserved : goal.loop-at-preserved
loop-at-preserved c =
    let is_one = sym c.is_digit.ensures ∙ c.if-not-is_digit.false in (
      omega (arith, c.loop-at-test.true),
      takes-on c.args.text.now _ _ c.loop-at.at c.loop-at.held _ _ c.loop-at.invariant.1
          (subst (λ (d : ℕ). Takes c.args.text.now c.loop-at.at c.loop-at.held (c.loop-at.at + 1) (c.loop-at.held * 10 + d)) (sym c.digit.ensures)
          (takes-digit c.args.text.now c.loop-at.at c.loop-at.held c.loop-at-test.true is_one c.if-held-ge1000000000000000000.false)),
    )

pub returns-then-held-ge1000000000000000000 : goal.returns-then-held-ge1000000000000000000
returns-then-held-ge1000000000000000000 c =
    elim c.then-held-ge1000000000000000000.branch [
      | then-held-ge1000000000000000000-via-then-held-ge1000000000000000000 w ↦ record {
        takes = c.loop-at.invariant.1;
        ended = λ few. absurd (omega (arith, few, w.if-held-ge1000000000000000000.true));
      }
      | then-held-ge1000000000000000000-via-else-held-ge1000000000000000000+then-not-is_digit w ↦ record {
        takes = c.loop-at.invariant.1;
        ended = λ few. all-stop digits _ _ c.loop-at-test.true (sym w.is_digit.ensures ∙ w.if-not-is_digit.true);
      }
    ]

pub returns : goal.returns
returns c =
    let end : c.max.result ≡ c.loop-at.at = omega (arith, c.max.ensures, c.loop-at-test.false, c.loop-at.auto.at, c.loop-at.invariant.0) in
    rw end (record { takes = c.loop-at.invariant.1; ended = λ few. all_end digits _ _ c.loop-at-test.false })
