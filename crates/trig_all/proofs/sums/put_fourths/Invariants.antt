-- The invariant: each place before i has its fourth power. Assumes nothing.
use Prim.Native.Nat.{ℕ}
use lib.ListN.{get_or}
use Rattle.trig_rule.specs.Steps.{fourth_of}
use Rattle.trig_all.specs.Rows.{Row}
use Rattle.trig_all.proofs.sums.put_fourths.Given as goal

abbrev pub invariant-loop-i : goal.invariant-loop-i
invariant-loop-i l = Row (λ (k : ℕ). fourth_of (get_or l.r k 0)) l.i l.v
