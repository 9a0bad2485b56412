-- `strict_argument::two_pairs` meets its contract: a pair and a pair, with a separator or none between them. Assumes nothing.
use Rattle.strict_grammar.specs.Grammar.{coordinate-pair}
use Rattle.strict_argument.proofs.Steps.{step}
use Rattle.strict_argument.proofs.Starts.{pair-starts}
use Rattle.strict_argument.proofs.groups.two_pairs.Goals as goal

pub returns : goal.returns
returns c =
    let edition = c.args.text.edition in
    let text = c.args.text.bytes.now in
    step edition text (coordinate-pair edition text) (coordinate-pair edition text) (pair-starts edition text) _ _ _ _
    c.in_ok-end.ensures c.past_separator.ensures c.pair-2.ensures

pub returns-in_err-end : goal.returns-in_err-end
returns-in_err-end c = rw c.from_residual.ensures (λ n v. c.in_err-end.ensures v.0 v.1)
