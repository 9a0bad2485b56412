-- `strict_argument::past_separator` meets its contract: its three steps are those of the definition. Assumes nothing.
use mathlib.Core.Path.{ap, ◌∙◌}
use Rattle.scan.specs.Runs.{past_comma_of}
use Rattle.strict_grammar.specs.Words.{past_white_in, past_separator_of}
use Rattle.strict_argument.proofs.words.past_separator.Goals as goal

pub returns : goal.returns
unfolding past_separator_of
returns c =
    let a = c.args in
    c.past_space-2.ensures
    ∙ ap (past_white_in a.text.edition a.text.bytes.now) (c.past_comma.ensures ∙ ap (past_comma_of a.text.bytes.now) c.past_space.ensures)
