-- By the number of points. Assumes nothing.
use Rattle.std.proofs.Common.{sym, ◌∙◌, arith}
use Rattle.math.specs.Math.{origin_f}
use Rattle.spline.proofs.Counts.{sample-none, sample-one, sample-two, sample-more}
use Rattle.spline.proofs.sampling.sample.Goals as goal

pub returns-then-count-eq0 : goal.returns-then-count-eq0
unfolding origin_f
returns-then-count-eq0 c = sym (sample-none _ _ c.if-count-eq0.true)

pub returns-then-count-eq1 : goal.returns-then-count-eq1
returns-then-count-eq1 c = c.point_at.ensures ∙ sym (sample-one _ _ c.if-count-eq1.true)

pub returns-then-count-eq2 : goal.returns-then-count-eq2
returns-then-count-eq2 c =
    cc (sample-two c.args.points.now c.args.raw.value c.if-count-eq2.true)

pub returns : goal.returns
returns c = c.curve.ensures ∙ sym (sample-more _ _ (omega arith))
