-- The invariant: each place before i has its product, and the others what they had. Assumes nothing.
use Prim.Native.Nat.{ℕ}
use lib.ListN.{get_or}
use Rattle.trig_rule.specs.Steps.{square_of, risen}
use Rattle.trig_all.proofs.Rows.{Replacing}
use Rattle.trig_all.proofs.sums.times_squares.Given as goal

abbrev pub invariant-loop-i : goal.invariant-loop-i
invariant-loop-i l = Replacing (λ (k : ℕ). risen 0 (square_of (get_or l.r k 0)) (get_or l.initial.row k 0)) l.initial.row l.row l.i
