-- The invariant: the numbers before k are in (`Copied`). Assumes nothing.
use borrow.Author.Rules.{rules}
use lib.Ieee.{nan}
use Rattle.c_output.proofs.Copying.{copied-start, copied_more, copied-done}
use Rattle.c_output.proofs.outputs.copy.Goals as goal

pub loop-k-init : goal.loop-k-init
loop-k-init c = copied-start (search rules)

pub loop-k-preserved : goal.loop-k-preserved
loop-k-preserved c =
    copied_more nan _ c.loop-k.invariant c.loop-k-test.true c.tidy.ensures

pub returns : goal.returns
returns c = copied-done c.loop-k.invariant c.loop-k-test.false
