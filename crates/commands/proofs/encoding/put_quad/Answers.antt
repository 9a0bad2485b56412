-- `commands::encoding::put_quad` meets its contract: two runs of numbers, one after the other. Assumes nothing.
use Rattle.commands.proofs.Storing.{four-put}
use Rattle.commands.proofs.encoding.put_quad.Goals as goal

pub returns : goal.returns
returns c =
    four-put c.args.numbers.now c.args.at c.args.control.x c.args.control.y c.args.end.x c.args.end.y c.put_two.new.numbers _ c.put_two.ensures c.put_two-2.ensures
