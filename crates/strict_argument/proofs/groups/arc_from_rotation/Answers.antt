-- `strict_argument::arc_from_rotation` meets its contract: a rotation and the rest, between which a separator that may stand does. Assumes nothing.
use Rattle.strict_grammar.specs.Spans.{◌·◌, opt}
use Rattle.strict_grammar.specs.Grammar.{comma-wsp, rotation}
use Rattle.strict_argument.specs.Reading.{arc-from-large-flag, arc-from-rotation, arc-from-sweep-flag}
use Rattle.strict_argument.proofs.Steps.{must-separate, step}
use Rattle.strict_argument.proofs.Starts.{large-flag-starts}
use Rattle.strict_argument.proofs.groups.arc_from_rotation.Goals as goal

pub returns : goal.returns
unfolding arc-from-rotation arc-from-large-flag
returns c =
    let edition = c.args.text.edition in
    let text = c.args.text.bytes.now in
    must-separate edition text (opt (comma-wsp edition text) · arc-from-sweep-flag edition text) _ _
    (step edition text (rotation edition text) (arc-from-large-flag edition text) (large-flag-starts edition text) _ _ _ _
    c.in_ok-end.ensures c.past_separator.ensures c.arc_from_large_flag.ensures)

pub returns-in_err-end : goal.returns-in_err-end
unfolding arc-from-rotation arc-from-large-flag
returns-in_err-end c = rw c.from_residual.ensures (λ n v. c.in_err-end.ensures v.0 v.1)
