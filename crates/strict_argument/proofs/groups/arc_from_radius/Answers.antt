-- `strict_argument::arc_from_radius` meets its contract: a radius and the rest, with a separator or none between them. Assumes nothing.
use Rattle.strict_grammar.specs.Grammar.{nonnegative-number}
use Rattle.strict_argument.specs.Reading.{arc-from-radius, arc-from-rotation}
use Rattle.strict_argument.proofs.Steps.{step}
use Rattle.strict_argument.proofs.Starts.{rotation-starts}
use Rattle.strict_argument.proofs.groups.arc_from_radius.Goals as goal

pub returns : goal.returns
unfolding arc-from-radius
returns c =
    let edition = c.args.text.edition in
    let text = c.args.text.bytes.now in
    step edition text (nonnegative-number edition text) (arc-from-rotation edition text) (rotation-starts edition text) _ _ _ _
    c.in_ok-end.ensures c.past_separator.ensures c.arc_from_rotation.ensures

pub returns-in_err-end : goal.returns-in_err-end
unfolding arc-from-radius
returns-in_err-end c = rw c.from_residual.ensures (λ n v. c.in_err-end.ensures v.0 v.1)
