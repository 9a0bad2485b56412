-- The point is taken at the clamped progress, which is what the lookup in a single 0 gives. Assumes nothing.
use borrow.Author.Rules.{rules}
use mathlib.Core.Path.{ap, ◌∙◌}
use Rattle.floats.specs.Floats.{zero_f}
use Rattle.table.proofs.Single.{single-sound, single-raw}
use Rattle.arc.specs.Lines.{line_point_of, line_position_of}
use Rattle.arc.proofs.lines.line_position.Goals as goal

pub raw_parameter_in-requires : goal.raw_parameter_in-requires
unfolding zero_f
raw_parameter_in-requires c = single-sound

pub returns : goal.returns
unfolding line_position_of zero_f
returns c = c.line_point.ensures ∙ ap (line_point_of _) (c.raw_parameter_in.ensures ∙ single-raw _)
