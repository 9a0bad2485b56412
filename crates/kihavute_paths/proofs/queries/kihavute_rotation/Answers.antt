-- `kihavute_rotation` meets its contract: what the entry below ensures is given. Assumes nothing.
use borrow.Author.Rules.{rules}
use mathlib.Core.Path.{ap}
use Rattle.c_answer.specs.Places.{turn_given}
use Rattle.c_answer.proofs.Giving.{given-same}
use Rattle.kihavute_paths.proofs.queries.kihavute_rotation.Goals as goal

pub returns : goal.returns
returns c = given-same _ _ (ap turn_given c.rotation_deg-to.ensures) c.give_turn.ensures
