-- Each coordinate is itself or the lowest, and a number either way. Assumes nothing.
use Rattle.lengths.specs.Length.{square_sum_of}
use Rattle.lengths.proofs.Upward.{squares-upward}
use Rattle.lengths.proofs.Far.{summed}
use Rattle.lengths.proofs.passes.square_sum.Goals as goal

pub returns : goal.returns
unfolding square_sum_of
returns c =
    let a = c.number-a.ensures in
    let b = c.number-b.ensures in
    (squares-upward _ _ a.0 b.0, summed _ _ _ _ a.0 b.0 a.1 b.1)
