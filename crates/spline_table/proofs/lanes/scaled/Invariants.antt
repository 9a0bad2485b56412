-- The invariant: the scaled marks before i are in (`Passing`). Assumes nothing.
use mathlib.Core.Path.{◌≡◌}
use Prim.Native.Nat.{ℕ}
use lib.IntN.{pos}
use lib.Ieee.{Float, binary32, mul, of_int}
use Rattle.table.specs.Lookup.{at}
use Rattle.lengths.proofs.Lists.{Passing}
use Rattle.spline_table.proofs.lanes.scaled.Given as goal

abbrev pub invariant-loop-i : goal.invariant-loop-i
invariant-loop-i l = Passing (λ (j : ℕ) (v : Float). v ≡ mul binary32 (at l.own j) (of_int binary32 (pos l.segments))) l.r 16 l.i
