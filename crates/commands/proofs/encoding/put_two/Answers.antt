-- `commands::encoding::put_two` meets its contract: tidying changes no number. Assumes nothing.
use native.Mathlib.Omega.{arith}
use lib.ListN.{length-set}
use Rattle.commands.proofs.Storing.{two-put}
use Rattle.commands.proofs.encoding.put_two.Goals as goal

pub bounds-numbers-at-2 : goal.bounds-numbers-at-2
bounds-numbers-at-2 c = simp length-set (omega arith)

pub shape_of-numbers : goal.shape_of-numbers
shape_of-numbers c = simp length-set

pub returns : goal.returns
returns c = two-put c.args.numbers.now _ _ _ _ _ c.tidy.ensures c.tidy-2.ensures
