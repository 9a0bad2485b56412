-- `kihavute_check` meets its contract: the count of the segments is given, or that there is no stored path. Assumes nothing.
use mathlib.Core.Path.{ap, ◌∙◌}
use Rattle.c_answer.specs.Counts.{count_given}
use Rattle.c_answer.proofs.Giving.{given-same}
use Rattle.kihavute_paths.proofs.CheckGiven.{check-counted}
use Rattle.kihavute_paths.proofs.stored_paths.kihavute_check.Goals as goal

pub returns : goal.returns
returns c = given-same _ _ (ap count_given c.len.ensures ∙ check-counted _) c.give_count.ensures
