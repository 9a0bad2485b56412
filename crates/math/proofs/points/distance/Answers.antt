-- `math::distance` meets its contract: what the length ensures, at what the difference ensures. Assumes nothing.
use borrow.Author.Rules.{rules}
use mathlib.Core.Path.{ap, ◌∙◌}
use Rattle.math.specs.Math.{distance_of, length_of}
use Rattle.math.proofs.points.distance.Goals as goal

pub returns : goal.returns
unfolding distance_of
returns c = c.length.ensures ∙ ap length_of c.sub.ensures
