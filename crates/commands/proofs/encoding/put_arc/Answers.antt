-- `commands::encoding::put_arc` meets its contract: three runs of numbers and a last one; the flags are the numbers of `flag_of`. Assumes nothing.
use lib.ListN.{length-set}
use mathlib.Core.Path.{◌∙◌}
use Rattle.commands.proofs.Storing.{arc-put}
use Rattle.commands.proofs.encoding.put_arc.Goals as goal

-- ---- the answers
pub shape_of-numbers : goal.shape_of-numbers
shape_of-numbers c =
    simp length-set (c.put_two-3.auto.numbers ∙ c.put_two-2.auto.numbers ∙ c.put_two.auto.numbers)

pub returns : goal.returns
returns c =
    arc-put c.args.numbers.now c.args.at c.args.radii.x c.args.radii.y c.args.rotation c.args.end.x c.args.end.y c.args.large c.args.sweep
    c.put_two.ensures c.put_two-2.ensures c.put_two-3.ensures
    c.flag_number.ensures c.flag_number-2.ensures c.tidy.ensures
