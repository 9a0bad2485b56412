-- The invariant: the differences before k are in (`Passing`). Assumes nothing.
use mathlib.Core.Path.{◌≡◌}
use Prim.Native.Nat.{ℕ, ◌+◌}
use lib.Ieee.{Float, binary32, sub}
use Rattle.table.specs.Lookup.{at}
use Rattle.lengths.proofs.Lists.{Passing}
use Rattle.spline_table.proofs.lanes.differences_of.Given as goal

abbrev pub invariant-loop-k : goal.invariant-loop-k
invariant-loop-k l = Passing (λ (j : ℕ) (v : Float). v ≡ sub binary32 (at l.samples (j + 1)) (at l.samples j)) l.r 32 l.k
