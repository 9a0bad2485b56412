-- The invariant: both texts have the same bytes up to i, and `line` is one more than the lines that end there, so that the first wrong line of the whole is told by what follows (`passed`).
-- Assumes nothing.
use Prim.Native.Nat.{◌+◌, ◌≤◌}
use mathlib.Core.Path.{◌≡◌}
use lib.ListN.{drop}
use Rattle.station_check.proofs.Bytes.{by_each_byte, passed}
use Rattle.station_check.proofs.compare.first_wrong.Given as goal

abbrev pub invariant-loop-i : goal.invariant-loop-i
invariant-loop-i l = (1 ≤ l.line) × (l.line ≤ l.i + 1) × (by_each_byte l.wanted l.given ≡ passed l.line (by_each_byte (drop l.i l.wanted) (drop l.i l.given)))
