-- The body is the definition, operation by operation. Assumes nothing.
use Rattle.std.proofs.Common.{refl}
use Rattle.spline.specs.Formula.{half_f, two_f, three_f, four_f, five_f, blend_of}
use Rattle.spline.proofs.formula.blend.Goals as goal

pub returns : goal.returns
unfolding blend_of half_f two_f three_f four_f five_f
returns c = refl
