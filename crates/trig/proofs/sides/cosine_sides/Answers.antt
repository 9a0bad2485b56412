-- The ladders' numbers are the coefficients of the definition (`cosine-plus`, `cosine-minus`). Assumes nothing.
use Rattle.std.proofs.Common.{◌∙◌}
use Rattle.trig.proofs.Rungs.{cosine-plus, cosine-minus}
use Rattle.trig.proofs.sides.cosine_sides.Goals as goal

pub returns : goal.returns
returns c =
    let s = c.sides_by.ensures in
    (s.plus.0 ∙ cosine-plus c.args.r, s.minus.0 ∙ cosine-minus c.args.r, s.plus.1, s.minus.1)
