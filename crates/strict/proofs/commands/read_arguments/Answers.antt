-- `strict::read_arguments` meets its contract: a first argument after the white space, and the further ones after it. Assumes nothing.
use Rattle.strict.proofs.CommandLaws.{arguments-missing, arguments-past}
use Rattle.strict.proofs.commands.read_arguments.Goals as goal

pub returns-in_err-end : goal.returns-in_err-end
returns-in_err-end c =
    rw c.from_residual.ensures (arguments-missing c.args.text.edition c.args.text.bytes.now c.args.kind c.args.at _ c.past_space.ensures c.in_err-end.ensures)

pub returns : goal.returns
returns c =
    arguments-past c.args.text.edition c.args.text.bytes.now c.args.kind c.args.at _ c.past_space.ensures _ _ c.in_ok-end.ensures c.past_arguments.ensures
