-- The ladders' numbers are the coefficients of the definition (`sine-plus`, `sine-minus`). Assumes nothing.
use Rattle.std.proofs.Common.{◌∙◌}
use Rattle.trig.proofs.Rungs.{sine-plus, sine-minus}
use Rattle.trig.proofs.sides.sine_sides.Goals as goal

pub returns : goal.returns
returns c =
    let s = c.sides_by.ensures in
    (s.plus.0 ∙ sine-plus c.args.r, s.minus.0 ∙ sine-minus c.args.r, s.plus.1, s.minus.1)
