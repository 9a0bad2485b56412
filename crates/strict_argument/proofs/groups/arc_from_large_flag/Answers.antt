-- `strict_argument::arc_from_large_flag` meets its contract: a flag and the rest, with a separator or none between them. Assumes nothing.
use Rattle.strict_grammar.specs.Grammar.{flag}
use Rattle.strict_argument.specs.Reading.{arc-from-large-flag, arc-from-sweep-flag}
use Rattle.strict_argument.proofs.Steps.{step}
use Rattle.strict_argument.proofs.Starts.{sweep-flag-starts}
use Rattle.strict_argument.proofs.groups.arc_from_large_flag.Goals as goal

pub returns : goal.returns
unfolding arc-from-large-flag
returns c =
    let edition = c.args.text.edition in
    let text = c.args.text.bytes.now in
    step edition text (flag edition text) (arc-from-sweep-flag edition text) (sweep-flag-starts edition text) _ _ _ _
    c.in_ok-end.ensures c.past_separator.ensures c.arc_from_sweep_flag.ensures

pub returns-in_err-end : goal.returns-in_err-end
unfolding arc-from-large-flag
returns-in_err-end c = rw c.from_residual.ensures (λ n v. c.in_err-end.ensures v.0 v.1)
