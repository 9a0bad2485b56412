-- The invariants: the samples before i are in (`Sample`), then the differences before k, but for the last place (`Difference`). The
-- measures are the places left. Assumes nothing.
use Prim.Native.Nat.{ℕ, ◌<◌}
use lib.Ieee.{Float}
use Rattle.bezier.specs.Rows.{cubic_coordinate}
use Rattle.lengths.proofs.Lists.{Passing}
use Rattle.bezier.proofs.Differences.{Difference, Sample}
use Rattle.bezier.proofs.rows.cubic_differences.Given as goal

abbrev pub invariant-loop-i : goal.invariant-loop-i
invariant-loop-i l = Passing (Sample (cubic_coordinate l.a l.b l.c l.d)) l.samples 33 l.i

abbrev pub invariant-loop-k : goal.invariant-loop-k
invariant-loop-k l = Passing (λ (j : ℕ) (v : Float). j < 31 → Difference (cubic_coordinate l.a l.b l.c l.d) j v) l.row 32 l.k
