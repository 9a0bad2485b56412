-- The sample and the tangent are taken at what the lookup gives. Assumes nothing.
use borrow.Author.Rules.{rules}
use mathlib.Core.Path.{ap, ◌∙◌}
use lib.Ieee.{Float}
use Rattle.bezier.specs.Quads.{quad_sample_of, quad_tangent_at}
use Rattle.kihavute_curves.specs.Lone.{quad_lone}
use Rattle.kihavute_curves.proofs.LoneGiven.{lone_is}
use Rattle.kihavute_curves.proofs.lone.quad_lone.Goals as goal

pub returns : goal.returns
unfolding quad_lone
returns c =
    lone_is c.raw_parameter-raw.result (c.quad_sample-position.ensures ∙ ap (quad_sample_of _ _ _) c.raw_parameter-raw.ensures)
    (c.quad_tangent_at-tangent.ensures ∙ ap (λ (v : Float). quad_tangent_at c.args.curve v c.args.progress.value) c.raw_parameter-raw.ensures) c.raw_parameter-raw.ensures c.quad_length-length.ensures
