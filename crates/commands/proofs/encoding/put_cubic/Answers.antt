-- `commands::encoding::put_cubic` meets its contract: three runs of numbers, one after the other. Assumes nothing.
use Rattle.commands.proofs.Storing.{six-put}
use Rattle.commands.proofs.encoding.put_cubic.Goals as goal

pub returns : goal.returns
returns c =
    six-put c.args.numbers.now c.args.at c.args.control1.x c.args.control1.y c.args.control2.x c.args.control2.y c.args.end.x c.args.end.y
    c.put_two.ensures c.put_two-2.ensures c.put_two-3.ensures
