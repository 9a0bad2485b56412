-- `decimal_digits::gathering::exponent` meets its contract. Assumes nothing.
use mathlib.Core.Bool.{not}
use Rattle.std.proofs.Common.{◌≡◌, ℕ, ◌+◌, ◌*◌, ◌<◌, length, sym, refl, ap, ◌∙◌, subst, arith}
use borrow.Author.Tests.{not-true, not-false}
use Rattle.scan.specs.Bytes.{digits}
use Rattle.scan.proofs.ByteLaws.{digit-range}
use Rattle.scan.proofs.RunLaws.{all_pass, all-stop, all_end}
use Rattle.decimal_digits.specs.Digits.{digits_in, val}
use Rattle.decimal_digits.specs.Exponent.{capped}
use Rattle.decimal_digits.proofs.Values.{digit_lt}
use Rattle.decimal_digits.proofs.Capping.{size-start, size-digit, power-is}
use Rattle.decimal_digits.proofs.gathering.exponent.Goals as goal

pub loop-at-init : goal.loop-at-init
loop-at-init c = (omega arith, refl, size-start c.args.text.now c.args.from)

pub digit-requires : goal.digit-requires
digit-requires c = digit-range _ (sym c.is_digit.ensures ∙ not-false _ (ap not c.if-not-is_digit.false))

pub longer-size-requires : goal.longer-size-requires
longer-size-requires c = subst (λ (d : ℕ). d < 10) (sym c.digit.ensures) (digit_lt _ (sym c.is_digit.ensures ∙ not-false _ (ap not c.if-not-is_digit.false)))

pub loop-at-preserved : goal.loop-at-preserved
loop-at-preserved c =
    let inside : c.loop-at.at < length c.args.text.now = c.loop-at-test.true in
    let is_one = sym c.is_digit.ensures ∙ not-false _ (ap not c.if-not-is_digit.false) in (
      omega arith,
      all_pass digits c.args.text.now c.loop-at.at inside is_one ∙ c.loop-at.invariant.1,
      c.longer-size.ensures (val (digits_in c.args.text.now c.args.from c.loop-at.at)) c.loop-at.invariant.2
          ∙ ap (λ (d : ℕ). capped (val (digits_in c.args.text.now c.args.from c.loop-at.at) * 10 + d)) c.digit.ensures
          ∙ ap capped (size-digit c.args.text.now c.args.from c.loop-at.at c.loop-at.auto.at inside is_one),
    )

pub returns : goal.returns
returns c =
    let end : c.max.result ≡ c.loop-at.at = omega (arith, c.max.ensures, c.loop-at-test.false, c.loop-at.auto.at, c.loop-at.invariant.0) in
    rw end (power-is _ _ _ c.loop-at.auto.at _ c.loop-at.invariant.1 (all_end digits _ _ c.loop-at-test.false) c.loop-at.invariant.2)

pub returns-then-not-is_digit : goal.returns-then-not-is_digit
returns-then-not-is_digit c =
    power-is _ _ _ c.loop-at.auto.at _ c.loop-at.invariant.1
    (all-stop digits _ _ c.loop-at-test.true (sym c.is_digit.ensures ∙ not-true _ (ap not c.if-not-is_digit.true))) c.loop-at.invariant.2
