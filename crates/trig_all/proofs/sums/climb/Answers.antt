-- Two rungs, and two above them. Assumes nothing.
use native.Mathlib.Omega.{arith}
use lib.ListN.{get_or}
use Rattle.trig_all.proofs.Sizes.{two-le}
use Rattle.trig_all.proofs.sums.climb.Goals as goal

pub next_rungs-requires : goal.next_rungs-requires
next_rungs-requires c =
    let l = c.args.l in
    (c.requires.0, c.requires.1, λ k h. omega (arith, l.room, two-le l.c l.d (get_or c.args.v.now k 0) l.e _ (c.requires.1 k h) (c.first_rungs.ensures.each k h)))
