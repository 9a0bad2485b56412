-- Where the way is mild the arc is calm (`calm-tests`); elsewhere its numbers tell. Assumes nothing.
use mathlib.Core.Path.{sym, ap, ◌∙◌}
use Rattle.floats.proofs.Tests.{passed}
use Rattle.path_bounds.specs.Calm.{is_mild_way}
use Rattle.path_bounds.proofs.Ways.{calm-tests}
use Rattle.path_bounds.proofs.is_calm_chord.Goals as goal

pub returns-then-is_mild_point-is_mild_way : goal.returns-then-is_mild_point-is_mild_way
returns-then-is_mild_point-is_mild_way c =
    let held = passed c.well_formed.0.1.1.1.1.0.1 in
    let number = passed (sym c.is_finite.ensures ∙ c.if-is_finite.true) in
    calm-tests c.args.chord held number c.is_mild_point.ensures c.is_mild_point-then-is_finite.ensures
    (c.is_mild_way.ensures ∙ ap is_mild_way c.way_of.ensures) c.if-is_mild_point-is_mild_way.true

pub returns : goal.returns
returns c = rw (c.is_calm_arc.ensures, c.from_ends.ensures)
