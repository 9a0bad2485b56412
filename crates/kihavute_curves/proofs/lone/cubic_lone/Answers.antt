-- The sample and the tangent are taken at what the lookup gives. Assumes nothing.
use borrow.Author.Rules.{rules}
use mathlib.Core.Path.{ap, ◌∙◌}
use lib.Ieee.{Float}
use Rattle.bezier.specs.Cubics.{cubic_sample_of, cubic_tangent_at}
use Rattle.kihavute_curves.specs.Lone.{cubic_lone}
use Rattle.kihavute_curves.proofs.LoneGiven.{lone_is}
use Rattle.kihavute_curves.proofs.lone.cubic_lone.Goals as goal

pub returns : goal.returns
unfolding cubic_lone
returns c =
    lone_is c.raw_parameter-raw.result (c.cubic_sample-position.ensures ∙ ap (cubic_sample_of _ _ _ _) c.raw_parameter-raw.ensures)
    (c.cubic_tangent_at-tangent.ensures ∙ ap (λ (v : Float). cubic_tangent_at c.args.curve v c.args.progress.value) c.raw_parameter-raw.ensures) c.raw_parameter-raw.ensures c.cubic_length-length.ensures
