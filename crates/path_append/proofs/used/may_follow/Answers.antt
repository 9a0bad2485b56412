-- `path_append::may_follow` meets its contract. Assumes nothing.
use Rattle.path_append.proofs.InUse.{used-whole}
use Rattle.floats.proofs.Tests.{passed}
use mathlib.Core.Path.{sym, ◌∙◌}
use Rattle.path_append.proofs.used.may_follow.Goals as goal

pub number_before-requires : goal.number_before-requires
number_before-requires c = (used-whole _ _ (passed (sym c.is_in_use.ensures ∙ c.if-is_in_use.true))).with_commands
