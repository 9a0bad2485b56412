-- Before the run's end each place has its length or 0, and its length where the flag is not set (`Flagged`). After i runs these are 15 * i
-- places, and after the last run the last place too. Assumes nothing.
use Rattle.std.proofs.Common.{ℕ, ◌+◌, ◌*◌, ◌/◌}
use Rattle.lengths.proofs.Lists.{Flagged}
use Rattle.lengths.proofs.rows.lengths.Given as goal

abbrev pub placed : ℕ → ℕ
placed i = 15 * i + i / 2

abbrev pub invariant-loop-k : goal.invariant-loop-k
invariant-loop-k l = Flagged l.x l.y l.out 31 (l.at + l.k) l.unsettled

abbrev pub invariant-loop-at : goal.invariant-loop-at
invariant-loop-at l = Flagged l.x l.y l.out 31 (placed l.at-index) l.unsettled
