-- `path_append::push_segment` meets its contract: what is judged is answered, and stored where it is accepted. Assumes nothing.
use Rattle.path_append.proofs.Added.{added-passed, passed-room}
use Rattle.path_append.specs.Appending.{is_added}
use mathlib.Core.Path.{sym, ap, ◌∙◌}
use Rattle.path_append.proofs.pushing.push_segment.Goals as goal

pub store-requires : goal.store-requires
store-requires c = passed-room _ _ _ _ (added-passed _ _ _ _ (ap is_added (sym c.judge.ensures) ∙ ap is_added c.in_ok-in_use.was))
