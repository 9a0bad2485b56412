-- `path_storing::direct::put_point` meets its contract. Assumes nothing.
use mathlib.Core.Path.{refl}
use native.Mathlib.Omega.{arith}
use lib.ListN.{length-set}
use Rattle.commands.proofs.Storing.{two-put}
use Rattle.path_storing.proofs.direct.put_point.Goals as goal

pub bounds-fields-at-2 : goal.bounds-fields-at-2
bounds-fields-at-2 c = simp length-set (omega arith)

pub returns : goal.returns
returns c = two-put c.args.fields.now _ _ _ _ _ refl refl
