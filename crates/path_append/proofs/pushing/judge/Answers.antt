-- `path_append::judge` meets its contract. Assumes nothing.
use Rattle.path_append.proofs.InUse.{follow-whole}
use Rattle.floats.proofs.Tests.{passed}
use mathlib.Core.Path.{sym, ◌∙◌}
use Rattle.path_append.proofs.pushing.judge.Goals as goal

pub length_before-requires : goal.length_before-requires
length_before-requires c = (follow-whole _ _ _ (passed (sym c.may_follow.ensures ∙ c.if-not-may_follow.false))).with_lengths
