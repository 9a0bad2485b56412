-- `kihavute_sin_cos` meets its contract: the two patterns of what the entry below ensures; and the laws of both, since what is passed is an f32 value. Assumes nothing.
use mathlib.Core.Path.{refl, ap, ◌∙◌}
use denote.Floats.{passes}
use lib.Ieee.{Float}
use Rattle.trig_rule.specs.Steps.{cosine_of}
use Rattle.math.specs.Math.{point_of}
use Rattle.kihavute.specs.Pair.{pair_of}
use Rattle.kihavute.proofs.Keeping.{sine-kept, cosine-kept}
use Rattle.kihavute.proofs.turns.kihavute_sin_cos.Goals as goal

pub returns : goal.returns
returns c =
    let held = passes _ c.well_formed.0.1 in
    record {
      value =
          c.pair.ensures
          ∙ ap (λ (x : Float). pair_of (point_of x c.sin_cos-both.result.sin)) c.sin_cos-both.ensures.1
          ∙ ap (λ (y : Float). pair_of (point_of (cosine_of c.args.angle) y)) c.sin_cos-both.ensures.0;
      sine_kept = (sine-kept c.args.angle held refl, cosine-kept c.args.angle held refl);
    }
