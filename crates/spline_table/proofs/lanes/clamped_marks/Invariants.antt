-- The invariant: the marks before i are in (`Passing`). Assumes nothing.
use mathlib.Core.Path.{◌≡◌}
use Prim.Native.Nat.{ℕ, ◌+◌}
use lib.Ieee.{Float}
use Rattle.lengths.proofs.Lists.{Passing}
use Rattle.spline_table.specs.Rows.{clamped_mark_of}
use Rattle.spline_table.proofs.lanes.clamped_marks.Given as goal

abbrev pub invariant-loop-i : goal.invariant-loop-i
invariant-loop-i l = Passing (λ (j : ℕ) (v : Float). v ≡ clamped_mark_of l.last (l.k + j)) l.r 16 l.i
