-- The elements before k are in (`Copied`). Assumes nothing.
use borrow.Author.Rules.{rules}
use mathlib.Core.Path.{refl}
use native.Mathlib.Omega.{arith}
use Rattle.svg.proofs.Copying.{copied-start, copied_more, copied-done}
use Rattle.svg.proofs.passes.put_first.Goals as goal

pub loop-k-init : goal.loop-k-init
loop-k-init g c = copied-start (search rules)

pub returns : goal.returns
returns g c = copied-done c.loop-k.invariant (omega arith)

pub loop-k-preserved : goal.loop-k-preserved
loop-k-preserved g c = copied_more c.index-elements-k.result _ c.loop-k.invariant c.loop-k-test.true (search rules)
