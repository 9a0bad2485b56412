-- `table::searches::spot_toward` meets its contract: a short path gives its last segment's end, and `spot_at` any other. Assumes nothing.
use Rattle.floats.specs.Floats.{one_f, epsilon_f}
use Rattle.table.proofs.Before.{path-total}
use Rattle.table.proofs.searches.spot_toward.Goals as goal

pub returns-then-total : goal.returns-then-total
unfolding epsilon_f one_f
returns-then-total c =
    rw (rw (path-total c.args.lengths.now c.requires.sound_path.some) at c.if-total.true)

pub returns : goal.returns
unfolding epsilon_f
returns c =
    let total = path-total c.args.lengths.now c.requires.sound_path.some in
    rw (rw total at c.if-total.false) c.spot_at.ensures
