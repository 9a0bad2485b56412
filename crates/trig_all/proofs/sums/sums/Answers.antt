-- The rungs fit 32 digits. Assumes nothing.
use Rattle.trig_all.proofs.Sizes.{fourths-below, rungs-below}
use Rattle.trig_all.proofs.sums.sums.Goals as goal

pub times_squares-requires : goal.times_squares-requires
times_squares-requires c =
    let l = c.args.down in
    let small = fourths-below c.args.r.now c.requires.1 c.requires.2 in
    (c.requires.0, c.requires.1, rungs-below l.a l.b l.c l.d l.e c.args.v.now l.room small c.climb-2.ensures)
