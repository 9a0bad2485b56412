-- `strict_argument::number_2` meets its contract: its places are those of the definition. Assumes nothing.
use Rattle.strict_argument.proofs.Steps.{fraction-found, whole-found, neither-found}
use Rattle.strict_argument.proofs.words.number_2.Goals as goal

pub returns-then-fraction-end : goal.returns-then-fraction-end
returns-then-fraction-end c =
    fraction-found c.args.text.now _
    c.past_sign-whole.ensures c.past_digits-point.ensures c.past_point-fraction.ensures c.past_digits-end.ensures
    c.if-fraction-end.true

pub returns-then-whole-point : goal.returns-then-whole-point
returns-then-whole-point c =
    whole-found c.args.text.now _
    c.past_sign-whole.ensures c.past_digits-point.ensures c.past_point-fraction.ensures c.past_digits-end.ensures
    c.if-fraction-end.false c.if-whole-point.true

pub returns : goal.returns
returns c =
    neither-found c.args.text.now _
    c.past_sign-whole.ensures c.past_digits-point.ensures c.past_point-fraction.ensures c.past_digits-end.ensures
    c.if-fraction-end.false c.if-whole-point.false
