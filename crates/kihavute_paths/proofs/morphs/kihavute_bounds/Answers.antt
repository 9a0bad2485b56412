-- The bounds of the entry below. Assumes nothing.
use borrow.Author.Rules.{rules}
use mathlib.Core.Path.{refl, sym, ap, ◌∙◌}
use Rattle.c_answer.proofs.Giving.{given-same}
use Rattle.kihavute_paths.specs.Morphs.{bounds_given}
use Rattle.kihavute_paths.proofs.morphs.kihavute_bounds.Goals as goal

pub returns : goal.returns
returns c = given-same _ _ (ap bounds_given c.bounds_at-bounded.ensures) c.give_bounds.ensures
