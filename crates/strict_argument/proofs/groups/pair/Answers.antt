-- `strict_argument::pair` meets its contract: a number and a number, with a separator or none between them. Assumes nothing.
use Rattle.strict_grammar.specs.Grammar.{coordinate-pair, number}
use Rattle.strict_grammar.proofs.Numbers.{number-starts}
use Rattle.strict_argument.proofs.Steps.{step}
use Rattle.strict_argument.proofs.groups.pair.Goals as goal

pub returns : goal.returns
unfolding coordinate-pair
returns c =
    let edition = c.args.text.edition in
    let text = c.args.text.bytes.now in
    step edition text (number edition text) (number edition text) (number-starts edition text) _ _ _ _
    c.in_ok-middle.ensures c.past_separator.ensures c.read_number-2.ensures

pub returns-in_err-middle : goal.returns-in_err-middle
unfolding coordinate-pair
returns-in_err-middle c = rw c.from_residual.ensures (λ n v. c.in_err-middle.ensures v.0 v.1)
