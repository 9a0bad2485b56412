-- `scan::scan_number` meets its contract: each way out is a law over the places that the calls have found. Assumes nothing.
use Rattle.scan.proofs.NumberLaws.{number-none, number-bare, number-found}
use Rattle.scan.proofs.numbers.scan_number.Goals as goal

pub returns-then-whole-point : goal.returns-then-whole-point
returns-then-whole-point c =
    number-none _ _ _ _ _ _ c.past_sign-whole.ensures c.past_digits-point.ensures
    c.past_point-fraction.ensures c.past_digits-mark.ensures c.if-whole-point.true

pub returns-then-mark-exponent : goal.returns-then-mark-exponent
returns-then-mark-exponent c =
    number-bare _ _ _ _ _ _ c.past_sign-whole.ensures c.past_digits-point.ensures
    c.past_point-fraction.ensures c.past_digits-mark.ensures _ _ c.past_mark-exponent.ensures c.past_digits-end.ensures
    c.if-whole-point.false c.if-mark-exponent.true

pub returns : goal.returns
returns c =
    number-found _ _ _ _ _ _ c.past_sign-whole.ensures c.past_digits-point.ensures
    c.past_point-fraction.ensures c.past_digits-mark.ensures _ _ c.past_mark-exponent.ensures c.past_digits-end.ensures
    c.if-whole-point.false c.if-mark-exponent.false
