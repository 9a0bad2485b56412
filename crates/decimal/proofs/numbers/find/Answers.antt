-- `decimal::numbers::find` meets its contract: each way out is a law over what the calls have found. Assumes nothing.
use mathlib.Core.Path.{◌≡◌, ap, sym, ◌∙◌}
use mathlib.Core.Bool.{not, true}
use Prim.Native.Nat.{ℕ, ◌+◌, ◌^◌, ◌<◌}
use native.Mathlib.Omega.{arith}
use lib.Dec.{eqb}
use lib.ListN.{get_or}
use borrow.Author.Tests.{not-true, not-false, eq-eqb, ne_eqb}
use Rattle.scan.specs.Bytes.{among, points, exponent_marks}
use Rattle.scan.proofs.RunLaws.{one-onward}
use Rattle.decimal.specs.Decimal.{minus}
use Rattle.decimal.proofs.Found.{plain_at, marked-at, mark-inside, number-no-digit, number-no-exponent, scanned, held_plain, held-falling, held-rising}
use Rattle.decimal.proofs.numbers.find.Goals as goal

pub gather_many-all-requires : goal.gather_many-all-requires
gather_many-all-requires c =
    omega (arith, c.gather-first.ensures.few, c.past_point-fraction.ensures, one-onward points c.args.text.now c.gather-first.result.at)

pub returns-then-whole-point : goal.returns-then-whole-point
returns-then-whole-point c =
    record { said = number-no-digit _ c.past_sign-whole.ensures c.gather-first.ensures c.past_point-fraction.ensures c.gather_many-all.ensures c.if-whole-point.true }

pub returns-then-not-is_exponent_mark : goal.returns-then-not-is_exponent_mark
returns-then-not-is_exponent_mark c =
    let no-mark = ap (λ (x : ℕ). among x exponent_marks) (sym c.byte_at.ensures) ∙ sym c.is_exponent_mark.ensures ∙ not-true _ (ap not c.if-not-is_exponent_mark.true) in
    let end = plain_at _ c.gather_many-all.ensures.passed no-mark in
    record {
      said = (
        scanned _ c.past_sign-whole.ensures c.gather-first.ensures c.past_point-fraction.ensures c.gather_many-all.ensures c.if-whole-point.false end.x-is end.e-is end.fine,
        held_plain _ c.past_sign-whole.ensures c.gather-first.ensures c.past_point-fraction.ensures c.gather_many-all.ensures c.if-whole-point.false end,
      );
    }

pub overflow_add-mark : goal.overflow_add-mark
overflow_add-mark c = omega (arith, (let mark_lt_here : c.gather_many-all.result.at + 1 < 2 ^ 64 = omega (arith, mark-inside c.args.text.now _ ((let is_mark_here : among (get_or c.args.text.now c.gather_many-all.result.at 0) exponent_marks ≡ true = ap (λ (x : ℕ). among x exponent_marks) (sym c.byte_at.ensures) ∙ sym c.is_exponent_mark.ensures ∙ not-false _ (ap not c.if-not-is_exponent_mark.false) in is_mark_here)), c.well_formed) in mark_lt_here))

pub returns-then-digits-end : goal.returns-then-digits-end
returns-then-digits-end c =
    let end = marked-at ((let is_mark_here : among (get_or c.args.text.now c.gather_many-all.result.at 0) exponent_marks ≡ true = ap (λ (x : ℕ). among x exponent_marks) (sym c.byte_at.ensures) ∙ sym c.is_exponent_mark.ensures ∙ not-false _ (ap not c.if-not-is_exponent_mark.false) in is_mark_here)) c.past_sign-digits.ensures c.exponent-power.ensures in
    record { said = number-no-exponent _ c.past_sign-whole.ensures c.gather-first.ensures c.past_point-fraction.ensures c.gather_many-all.ensures c.if-whole-point.false end.x-is end.e-is (end.none c.if-digits-end.true) }

pub overflow_add-mark-2 : goal.overflow_add-mark-2
overflow_add-mark-2 c = omega (arith, (let mark_lt_here : c.gather_many-all.result.at + 1 < 2 ^ 64 = omega (arith, mark-inside c.args.text.now _ ((let is_mark_here : among (get_or c.args.text.now c.gather_many-all.result.at 0) exponent_marks ≡ true = ap (λ (x : ℕ). among x exponent_marks) (sym c.byte_at.ensures) ∙ sym c.is_exponent_mark.ensures ∙ not-false _ (ap not c.if-not-is_exponent_mark.false) in is_mark_here)), c.well_formed) in mark_lt_here))

pub returns-then-byte_at-eq45 : goal.returns-then-byte_at-eq45
returns-then-byte_at-eq45 c =
    let end = marked-at ((let is_mark_here : among (get_or c.args.text.now c.gather_many-all.result.at 0) exponent_marks ≡ true = ap (λ (x : ℕ). among x exponent_marks) (sym c.byte_at.ensures) ∙ sym c.is_exponent_mark.ensures ∙ not-false _ (ap not c.if-not-is_exponent_mark.false) in is_mark_here)) c.past_sign-digits.ensures c.exponent-power.ensures in
    let is-minus = ap (λ (x : ℕ). eqb x minus) (sym c.byte_at-2.ensures) ∙ eq-eqb _ _ c.if-byte_at-eq45.true in
    record {
      said = (
        scanned _ c.past_sign-whole.ensures c.gather-first.ensures c.past_point-fraction.ensures c.gather_many-all.ensures c.if-whole-point.false end.x-is end.e-is (end.fine c.if-digits-end.false),
        held-falling _ c.past_sign-whole.ensures c.gather-first.ensures c.past_point-fraction.ensures c.gather_many-all.ensures c.if-whole-point.false end c.if-digits-end.false is-minus,
      );
    }

pub returns : goal.returns
returns c =
    let end = marked-at ((let is_mark_here : among (get_or c.args.text.now c.gather_many-all.result.at 0) exponent_marks ≡ true = ap (λ (x : ℕ). among x exponent_marks) (sym c.byte_at.ensures) ∙ sym c.is_exponent_mark.ensures ∙ not-false _ (ap not c.if-not-is_exponent_mark.false) in is_mark_here)) c.past_sign-digits.ensures c.exponent-power.ensures in
    let no_minus = ap (λ (x : ℕ). eqb x minus) (sym c.byte_at-2.ensures) ∙ ne_eqb _ _ c.if-byte_at-eq45.false in
    record {
      said = (
        scanned _ c.past_sign-whole.ensures c.gather-first.ensures c.past_point-fraction.ensures c.gather_many-all.ensures c.if-whole-point.false end.x-is end.e-is (end.fine c.if-digits-end.false),
        held-rising _ c.past_sign-whole.ensures c.gather-first.ensures c.past_point-fraction.ensures c.gather_many-all.ensures c.if-whole-point.false end c.if-digits-end.false no_minus,
      );
    }
