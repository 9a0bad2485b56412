-- `season_plan::counting::tally` meets its contract: the loop keeps that the rows of the bytes before its index are marked. Assumes nothing.
use mathlib.Core.Path.{◌≡◌}
use mathlib.Core.List.{map}
use lib.ListN.{take}
use Rattle.season_plan.specs.Rows.{row_of, marked}
use Rattle.season_plan.proofs.counting.tally.Given as goal

abbrev pub invariant-loop-byte : goal.invariant-loop-byte
invariant-loop-byte l = l.counts ≡ marked (map row_of (take l.byte-index l.bytes)) l.initial.counts
