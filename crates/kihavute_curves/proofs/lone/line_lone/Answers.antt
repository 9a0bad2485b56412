-- The point is taken at the clamped progress, which is what the lookup in a single 0 gives. Assumes nothing.
use borrow.Author.Rules.{rules}
use mathlib.Core.Path.{ap, ◌∙◌}
use Rattle.floats.specs.Floats.{zero_f}
use Rattle.table.proofs.Single.{single-sound, single-raw}
use Rattle.arc.specs.Lines.{line_point_of}
use Rattle.kihavute_curves.specs.Lone.{line_lone}
use Rattle.kihavute_curves.proofs.LoneGiven.{lone_is}
use Rattle.kihavute_curves.proofs.lone.line_lone.Goals as goal

pub raw_parameter_in-raw-requires : goal.raw_parameter_in-raw-requires
unfolding zero_f
raw_parameter_in-raw-requires c = single-sound

pub returns : goal.returns
unfolding line_lone zero_f
returns c =
    let clamped = c.raw_parameter_in-raw.ensures ∙ single-raw _ in
    lone_is c.raw_parameter_in-raw.result (c.line_point-position.ensures ∙ ap (line_point_of _) clamped) c.line_tangent-tangent.ensures clamped c.line_length-length.ensures
