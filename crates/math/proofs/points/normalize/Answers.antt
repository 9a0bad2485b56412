-- `math::normalize` meets its contract: the branch's test says which case of the definition holds, with the length that the call ensures. Assumes nothing.
use borrow.Author.Rules.{rules}
use mathlib.Core.Path.{sym}
use Rattle.floats.specs.Floats.{zero_f}
use Rattle.math.proofs.Pointwise.{at_most, longer}
use Rattle.math.specs.Math.{origin_f}
use Rattle.math.proofs.points.normalize.Goals as goal

pub returns-then-len : goal.returns-then-len
unfolding origin_f zero_f
returns-then-len c = sym (at_most c.args.v c.length-len.result c.length-len.ensures c.if-len.true)

pub returns-else-len : goal.returns-else-len
returns-else-len c = sym (longer c.args.v c.length-len.result c.length-len.ensures c.if-len.false)
