-- First loop: q is below 2^26, and falls. Second loop: besides, its square is at most n, and q rises towards 2^26. At the end q has both
-- bounds of the whole root, of which there is one (`is-whole-root`). Assumes nothing.
use Prim.Native.Nat.{◌-◌, ◌*◌, ◌≤◌, ◌<◌, ◌^◌}
use Rattle.root.proofs.whole.walk.Given as goal

abbrev pub invariant-loop-q : goal.invariant-loop-q
invariant-loop-q l = l.q < 2 ^ 26

abbrev pub decreases-loop-q : goal.decreases-loop-q
decreases-loop-q l = l.q

abbrev pub invariant-loop-q-2 : goal.invariant-loop-q-2
invariant-loop-q-2 l = (l.q < 2 ^ 26) × (l.q * l.q ≤ l.n)

abbrev pub decreases-loop-q-2 : goal.decreases-loop-q-2
decreases-loop-q-2 l = 2 ^ 26 - l.q
