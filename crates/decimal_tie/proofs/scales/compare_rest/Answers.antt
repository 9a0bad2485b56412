-- `decimal_tie::scales::compare_rest` meets its contract: each digit settles the order or leaves it to the rest. Assumes nothing.
use mathlib.Core.Bool.{not, true}
use mathlib.Core.Path.{◌≡◌, ap, sym, ◌∙◌}
use mathlib.Core.List.{List, ◌∷◌}
use Prim.Native.Nat.{ℕ, ◌+◌, ◌-◌, ◌<◌}
use borrow.Author.Tests.{not-true, not-false}
use lib.ListN.{length, get_or, drop}
use Rattle.scan.specs.Bytes.{among, digits}
use Rattle.scan.proofs.ByteLaws.{digit-range}
use Rattle.decimal_digits.specs.Digits.{digits_among}
use Rattle.decimal_digits.proofs.Values.{val-lt}
use Rattle.decimal_tie.specs.Words.{wide_of}
use Rattle.decimal_tie.specs.Weighing.{against}
use Rattle.decimal_tie.proofs.Against.{against-other, against-on, against-end, same-number}
use Rattle.decimal_tie.proofs.Parts.{digit-first, other-first, none_first}
use Rattle.decimal_tie.proofs.scales.compare_rest.Goals as goal

pub loop-i-preserved-then-not-is_digit : goal.loop-i-preserved-then-not-is_digit
loop-i-preserved-then-not-is_digit c =
    let is_none = sym c.is_digit.ensures ∙ not-true _ (ap not c.if-not-is_digit.true) in (
      c.loop-i.invariant.0,
      ap (λ (ds : List ℕ). against ds (wide_of c.loop-i.w)) (sym (other-first _ _ c.loop-i-test.true is_none)) ∙ c.loop-i.invariant.1,
    )

pub digit-d-requires : goal.digit-d-requires
digit-d-requires c = digit-range _ (sym c.is_digit.ensures ∙ not-false _ (ap not c.if-not-is_digit.false))

read_first :
    (part : List ℕ) (i d f : ℕ) → i < length part → among (get_or part i 0) digits ≡ true → d ≡ get_or part i 0 - 48
    → against (d ∷ digits_among (drop (i + 1) part)) f ≡ against (digits_among (drop i part)) f
read_first part i d f inside is e =
    ap (λ (x : ℕ). against (x ∷ digits_among (drop (i + 1) part)) f) e ∙ ap (λ (ds : List ℕ). against ds f) (sym (digit-first part i inside is))

pub returns-in_default : goal.returns-in_default
returns-in_default c =
    let is_one = sym c.is_digit.ensures ∙ not-false _ (ap not c.if-not-is_digit.false) in
    against-other _ _ _ _ c.times_ten-t.ensures (val-lt _) c.cmp.result c.cmp.ensures c.in_default.not-Equal
    ∙ read_first _ _ _ _ c.loop-i-test.true is_one c.digit-d.ensures
    ∙ c.loop-i.invariant.1

pub loop-i-preserved : goal.loop-i-preserved
loop-i-preserved c =
    let is_one = sym c.is_digit.ensures ∙ not-false _ (ap not c.if-not-is_digit.false) in (
      c.times_ten-t.ensures.small,
      sym (against-on _ _ _ _ c.times_ten-t.ensures (val-lt _) (same-number _ _ c.cmp.result c.cmp.ensures c.in-Equal.is))
          ∙ read_first _ _ _ _ c.loop-i-test.true is_one c.digit-d.ensures
          ∙ c.loop-i.invariant.1,
    )

pub returns : goal.returns
returns c =
    c.compare_wide.ensures
    ∙ sym (ap (λ (ds : List ℕ). against ds (wide_of c.loop-i.w)) (none_first _ _ c.loop-i-test.false) ∙ against-end _)
    ∙ c.loop-i.invariant.1
