-- `strict_argument::arc` meets its contract: a radius and the rest, with a separator or none between them. Assumes nothing.
use Rattle.strict_grammar.specs.Grammar.{elliptical-arc-argument, nonnegative-number}
use Rattle.strict_argument.specs.Reading.{arc-from-large-flag, arc-from-radius, arc-from-rotation, arc-from-sweep-flag}
use Rattle.strict_argument.proofs.Steps.{step}
use Rattle.strict_argument.proofs.Starts.{second-radius-starts}
use Rattle.strict_argument.proofs.groups.arc.Goals as goal

pub returns : goal.returns
unfolding elliptical-arc-argument arc-from-radius arc-from-rotation arc-from-large-flag arc-from-sweep-flag
returns c =
    let edition = c.args.text.edition in
    let text = c.args.text.bytes.now in
    step edition text (nonnegative-number edition text) (arc-from-radius edition text) (second-radius-starts edition text) _ _ _ _
    c.in_ok-end.ensures c.past_separator.ensures c.arc_from_radius.ensures

pub returns-in_err-end : goal.returns-in_err-end
unfolding elliptical-arc-argument arc-from-radius arc-from-rotation arc-from-large-flag arc-from-sweep-flag
returns-in_err-end c = rw c.from_residual.ensures (λ n v. c.in_err-end.ensures v.0 v.1)
