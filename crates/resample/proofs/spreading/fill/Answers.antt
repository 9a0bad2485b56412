-- Each way is filled as it was planned. Assumes nothing.
use Rattle.resample.proofs.Answering.{fill-copies, fill-spread}
use Rattle.resample.proofs.spreading.fill.Goals as goal

pub copy-requires : goal.copy-requires
copy-requires c =
    let asked = fill-copies _ _ _ _ c.requires c.in-Copies.is in
    record { points_nonzero = asked.0; count_in_bounds = asked.1 }

pub spread-requires : goal.spread-requires
spread-requires c = fill-spread _ _ _ _ c.requires _ c.in-Spread.is
