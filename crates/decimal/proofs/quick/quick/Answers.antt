-- `decimal::quick::quick` meets its contract: its places are those of the scan, and what is settled is the value (`quick-number`). Assumes nothing.
use mathlib.Core.Path.{◌≡◌, refl, ap, sym, ◌∙◌}
use mathlib.Core.Bool.{false}
use Prim.Native.Nat.{ℕ, ◌+◌, ◌^◌, ◌<◌}
use native.Mathlib.Omega.{arith}
use lib.Dec.{eqb}
use lib.ListN.{length, get_or}
use Rattle.scan.specs.Bytes.{among, points, exponent_marks}
use Rattle.scan.proofs.ByteLaws.{alone-is, alone-isnt}
use Rattle.scan.proofs.RunLaws.{byte_inside, one_byte, one_none}
use Rattle.decimal_digits.proofs.Taking.{gathers-none}
use Rattle.decimal.specs.Decimal.{minus}
use Rattle.decimal.proofs.Found.{plain_at}
use Rattle.decimal.proofs.Quickly.{neither, no_both, fills-all, quick-number, quick-read}
use Rattle.decimal.proofs.quick.quick.Goals as goal

no_zero : among 0 points ≡ false
unfolding among
no_zero = refl

pub returns-then-whole-point : goal.returns-then-whole-point
returns-then-whole-point c h = absurd (omega (arith, h))

-- ---- no point
pub returns-then-byte-ne46 : goal.returns-then-byte-ne46
returns-then-byte-ne46 c h =
    let settled = c.settle.ensures h in
    let ended = c.whole_digits-first.ensures.ended (omega (arith, settled.few)) in
    let plain = neither (eqb c.lead-led.result.at c.whole_digits-first.result.at) _ c.if-whole-point.false in
    let no-mark = ap (λ (b : ℕ). among b exponent_marks) (sym c.byte_at-byte.ensures) ∙ sym c.is_exponent_mark.ensures ∙ plain.1 in
    quick-read _ _ settled
    (quick-number c.args.at c.lead-led.ensures.0 (fills-all c.args.text.now c.lead-led.result.at 0 c.whole_digits-first.result c.whole_digits-first.ensures settled.few)
    (one_none points c.args.text.now c.whole_digits-first.result.at (alone-isnt _ 46 (λ e. c.if-byte-ne46.true (c.byte_at-byte.ensures ∙ e))))
    (gathers-none c.args.text.now c.whole_digits-first.result.at c.whole_digits-first.result.w 0 ended (omega arith)) (no_both (eqb c.lead-led.result.at c.whole_digits-first.result.at) (eqb c.whole_digits-first.result.at c.whole_digits-first.result.at) plain.0) (plain_at c.whole_digits-first.result.at (sym ended) no-mark) settled.few)
    (ap (λ (b : ℕ). eqb b minus) (sym c.byte_at-negative.ensures)) (omega arith)

pub overflow_add-fraction : goal.overflow_add-fraction
overflow_add-fraction c = record { fits = omega (arith, (let inside_here : c.whole_digits-first.result.at < length c.args.text.now = byte_inside points c.args.text.now _ no_zero (alone-is _ 46 ((let is_point_here : get_or c.args.text.now c.whole_digits-first.result.at 0 ≡ 46 = sym c.byte_at-byte.ensures ∙ search c.if-byte-ne46.false in is_point_here))) in inside_here), c.well_formed) }

pub returns-then-whole-point-2 : goal.returns-then-whole-point-2
returns-then-whole-point-2 c h = absurd (omega (arith, h))

pub returns-then-is_exponent_mark : goal.returns-then-is_exponent_mark
returns-then-is_exponent_mark c h = absurd (omega (arith, h))

pub returns : goal.returns
returns c h =
    let settled = c.settle-2.ensures h in
    let before-few : c.whole_digits-first.result.w < 2 ^ 53 = omega (arith, c.fraction_digits-all.ensures.takes.grows, settled.few) in
    let after = fills-all c.args.text.now (c.whole_digits-first.result.at + 1) c.whole_digits-first.result.w c.fraction_digits-all.result c.fraction_digits-all.ensures settled.few in
    let no-mark = ap (λ (b : ℕ). among b exponent_marks) (sym c.byte_at.ensures) ∙ sym c.is_exponent_mark-2.ensures ∙ c.if-is_exponent_mark.false in
    quick-read _ _ settled
    (quick-number c.args.at c.lead-led.ensures.0 (fills-all c.args.text.now c.lead-led.result.at 0 c.whole_digits-first.result c.whole_digits-first.ensures before-few)
    (one_byte points c.args.text.now c.whole_digits-first.result.at no_zero (alone-is _ 46 ((let is_point_here : get_or c.args.text.now c.whole_digits-first.result.at 0 ≡ 46 = sym c.byte_at-byte.ensures ∙ search c.if-byte-ne46.false in is_point_here)))) after c.if-whole-point-2.false (plain_at (c.whole_digits-first.result.at + 1) after.passed no-mark) settled.few)
    (ap (λ (b : ℕ). eqb b minus) (sym c.byte_at-negative.ensures)) refl
