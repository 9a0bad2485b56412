-- `path_build::plain::all_near` meets its contract. Assumes nothing.
use Rattle.path_build.proofs.Counting.{near-more, near-all}
use Rattle.path_build.proofs.plain.all_near.Goals as goal

pub loop-number-preserved : goal.loop-number-preserved
loop-number-preserved c =
    near-more c.args.numbers.now c.loop-number.number-index c.loop-number.near c.is_near-near.result c.loop-number-test.true c.loop-number.invariant c.is_near-near.ensures

pub returns : goal.returns
returns c = near-all c.args.numbers.now c.loop-number.number-index c.loop-number.near c.loop-number-test.false c.loop-number.invariant
