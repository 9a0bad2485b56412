-- `ellipse::sizes` meets its contract: what each call ensures. Assumes nothing.
use Rattle.math.proofs.Pointwise.{both}
use Rattle.ellipse.proofs.ends.sizes.Goals as goal

pub returns : goal.returns
returns c = both c.size.ensures c.size-2.ensures
