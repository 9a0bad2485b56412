-- `decimal_tie::scales::take` meets its contract. Assumes nothing.
use mathlib.Core.Path.{ap, sym, ◌∙◌}
use native.Mathlib.Nat.{le_refl}
use native.Mathlib.Omega.{arith}
use Rattle.scan.proofs.ByteLaws.{digit-range}
use Rattle.decimal_tie.specs.Weighing.{first, others}
use Rattle.decimal_tie.proofs.Parts.{digit-first, other-first, none_first}
use Rattle.decimal_tie.proofs.scales.take.Goals as goal

pub digit-requires : goal.digit-requires
digit-requires c = digit-range _ (sym c.is_digit.ensures ∙ c.if-is_digit.true)

pub returns-then-is_digit : goal.returns-then-is_digit
returns-then-is_digit c =
    let is_one = sym c.is_digit.ensures ∙ c.if-is_digit.true in
    let found = sym c.loop-i.invariant ∙ digit-first _ _ c.loop-i-test.true is_one in
    let range = digit-range _ is_one in
    record {
      digit-is = c.digit.ensures ∙ sym (ap first found);
      rest-is = sym (ap others found);
      small = omega (arith, c.digit.ensures, range);
    }

pub loop-i-preserved : goal.loop-i-preserved
loop-i-preserved c =
    sym (other-first _ _ c.loop-i-test.true (sym c.is_digit.ensures ∙ c.if-is_digit.false)) ∙ c.loop-i.invariant

pub returns : goal.returns
returns c =
    let found = sym c.loop-i.invariant ∙ none_first _ _ c.loop-i-test.false in
    record {
      digit-is = sym (ap first found);
      rest-is = none_first c.args.part.now _ (le_refl _) ∙ sym (ap others found);
      small = omega arith;
    }
