-- `decimal_digits::gathering::whole_digits` meets its contract: the first digit is known, and the rest are taken after it. Assumes nothing.
use Rattle.std.proofs.Common.{◌≡◌, ℕ, ◌+◌, ◌-◌, ◌*◌, ◌<◌, true, false, length, get_or, sym, refl, ap, ◌∙◌, subst, zero-add, arith, lit<}
use Rattle.scan.specs.Bytes.{among, digits}
use Rattle.scan.proofs.ByteLaws.{digit-range}
use Rattle.scan.proofs.RunLaws.{byte_inside, all_none}
use Rattle.decimal_digits.specs.Leading.{Takes}
use Rattle.decimal_digits.proofs.Taking.{takes_none, takes-on, takes-digit}
use Rattle.decimal_digits.proofs.gathering.whole_digits.Goals as goal

no_zero : among 0 digits ≡ false
unfolding among
no_zero = refl

pub overflow_add-from : goal.overflow_add-from
overflow_add-from c = record { fits = omega (arith, (let inside_here : c.args.from < length c.args.text.now = byte_inside digits c.args.text.now _ no_zero ((let is_one_here : among (get_or c.args.text.now c.args.from 0) digits ≡ true = ap (λ (b : ℕ). among b digits) (sym c.requires) ∙ sym c.is_digit.ensures ∙ c.if-is_digit.true in is_one_here)) in inside_here), c.well_formed) }

pub digit-requires : goal.digit-requires
digit-requires c = digit-range _ (sym c.is_digit.ensures ∙ c.if-is_digit.true)

pub returns-then-is_digit : goal.returns-then-is_digit
returns-then-is_digit c =
    let value : 0 * 10 + (get_or c.args.text.now c.args.from 0 - 48) ≡ c.digit.result = zero-add _ ∙ ap (λ (b : ℕ). b - 48) (sym c.requires) ∙ sym c.digit.ensures in
    let first = subst (λ (w : ℕ). Takes c.args.text.now c.args.from 0 (c.args.from + 1) w) value (takes-digit c.args.text.now c.args.from 0 ((let inside_here : c.args.from < length c.args.text.now = byte_inside digits c.args.text.now _ no_zero ((let is_one_here : among (get_or c.args.text.now c.args.from 0) digits ≡ true = ap (λ (b : ℕ). among b digits) (sym c.requires) ∙ sym c.is_digit.ensures ∙ c.if-is_digit.true in is_one_here)) in inside_here)) ((let is_one_here : among (get_or c.args.text.now c.args.from 0) digits ≡ true = ap (λ (b : ℕ). among b digits) (sym c.requires) ∙ sym c.is_digit.ensures ∙ c.if-is_digit.true in is_one_here)) (lit< tt)) in
    record { takes = takes-on c.args.text.now _ _ _ _ _ _ first c.fill.ensures.takes; ended = c.fill.ensures.ended }

pub returns : goal.returns
returns c =
    let isnt = ap (λ (b : ℕ). among b digits) (sym c.requires) ∙ sym c.is_digit.ensures ∙ c.if-is_digit.false in
    record { takes = takes_none _ _ _; ended = λ few. all_none digits c.args.text.now _ isnt }
