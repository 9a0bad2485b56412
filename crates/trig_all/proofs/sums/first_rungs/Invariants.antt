-- The invariant: each place before i has its two rungs. Assumes nothing.
use Prim.Native.Nat.{ℕ}
use lib.ListN.{get_or}
use Rattle.trig_rule.specs.Steps.{risen}
use Rattle.trig_all.specs.Rows.{Row}
use Rattle.trig_all.proofs.sums.first_rungs.Given as goal

abbrev pub invariant-loop-i : goal.invariant-loop-i
invariant-loop-i l = Row (λ (k : ℕ). risen l.a (get_or l.v k 0) (risen l.b (get_or l.v k 0) l.c)) l.i l.row
