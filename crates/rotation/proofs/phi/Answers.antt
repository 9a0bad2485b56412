-- The two calls are the definition. Assumes nothing.
use borrow.Author.Rules.{rules}
use mathlib.Core.Path.{ap, ◌∙◌}
use Rattle.math.specs.Math.{deg_to_rad_of}
use Rattle.rotation.specs.Rotation.{phi_of}
use Rattle.rotation.proofs.phi.Goals as goal

pub returns : goal.returns
unfolding phi_of
returns c = c.deg_to_rad.ensures ∙ ap deg_to_rad_of c.reduced.ensures
