-- `table::searches::spot_near` meets its contract: the target of a progress is a number. Assumes nothing.
use Rattle.table.specs.Lookup.{target_of}
use Rattle.table.specs.Spots.{spot_of}
use Rattle.table.proofs.Before.{path-total}
use Rattle.table.proofs.Lengths.{path-sound, total-nonneg}
use Rattle.table.proofs.Target.{target_real}
use Rattle.table.proofs.searches.spot_near.Goals as goal

pub spot_toward-requires-clause-t : goal.spot_toward-requires-clause-t
unfolding target_of
spot_toward-requires-clause-t c =
    rw (c.clamp01-t.ensures, path-total c.args.lengths.now c.requires.some) (target_real _ c.args.progress.value (total-nonneg (path-sound c.args.lengths.now c.requires.sound)))

pub returns : goal.returns
unfolding spot_of target_of
returns c =
    let total = path-total c.args.lengths.now c.requires.some in
    rw (← c.clamp01-t.ensures) (rw total at c.spot_toward.ensures)
