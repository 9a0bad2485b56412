-- `season_sheet::lines::used` meets its contract. The loop keeps the count of the rows before k. Assumes nothing.
use Prim.Native.Nat.{◌≤◌}
use mathlib.Core.Path.{◌≡◌}
use Rattle.season_sheet.specs.Sheet.{used_in}
use Rattle.season_sheet.proofs.lines.used.Given as goal

abbrev pub invariant-loop-k : goal.invariant-loop-k
invariant-loop-k l = (l.found ≡ used_in l.counts l.from l.k) × (l.found ≤ l.k)
