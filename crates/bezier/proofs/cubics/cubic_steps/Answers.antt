-- The two rows are the differences of the samples' coordinates, and their lengths the steps (`steps-are`). Assumes nothing.
use mathlib.Core.Path.{ap, ◌∙◌}
use mathlib.Core.List.{List}
use lib.ListN.{length, get_or}
use lib.Ieee.{Float, nan}
use Rattle.lengths.proofs.Lists.{lengths-count, lengths-at}
use Rattle.math.specs.Math.{lerp_point_of}
use Rattle.table_samples.specs.Samples.{sample_at}
use Rattle.table_samples.proofs.Steps.{steps-are}
use Rattle.bezier.specs.Cubics.{cubic_sample_of}
use Rattle.bezier.proofs.cubics.cubic_steps.Goals as goal

pub returns : goal.returns
unfolding sample_at cubic_sample_of lerp_point_of
returns c =
    steps-are (cubic_sample_of _ _ _ _) c.cubic_differences-x.result c.cubic_differences-y.result _ 31 (ap length c.lengths.ensures ∙ lengths-count 31 _ _) c.cubic_differences-x.ensures c.cubic_differences-y.ensures
    (λ k h. ap (λ (z : List Float). get_or z k nan) c.lengths.ensures ∙ lengths-at 31 _ _ k h)
