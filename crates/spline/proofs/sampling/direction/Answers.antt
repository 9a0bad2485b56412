-- By the number of points. Assumes nothing.
use Rattle.std.proofs.Common.{sym, arith}
use Rattle.math.specs.Math.{origin_f}
use Rattle.spline.proofs.Counts.{direction-few, direction-two, direction-more}
use Rattle.spline.proofs.sampling.direction.Goals as goal

pub returns-then-count-lt2 : goal.returns-then-count-lt2
unfolding origin_f
returns-then-count-lt2 c = sym (direction-few _ _ c.if-count-lt2.true)

pub returns-then-count-eq2 : goal.returns-then-count-eq2
returns-then-count-eq2 c = cc (direction-two c.args.points.now c.args.raw.value c.if-count-eq2.true)

pub returns : goal.returns
returns c = cc (direction-more c.args.points.now c.args.raw.value (omega arith))
