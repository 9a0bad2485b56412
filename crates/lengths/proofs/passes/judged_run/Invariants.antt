-- The invariants: each place before i has its sum, before j anything, before k its length or 0 (`Passing`). The measures are the places
-- left. Assumes nothing.
use mathlib.Core.Path.{◌≡◌}
use Prim.Native.Nat.{ℕ, ◌+◌, ◌-◌}
use mathlib.Core.List.{List}
use lib.ListN.{get_or}
use lib.Ieee.{Float, nan}
use Rattle.lengths.specs.Length.{Summed, Judged}
use Rattle.lengths.proofs.Lists.{Passing}
use Rattle.lengths.proofs.passes.judged_run.Given as goal

-- what place j of the run from `at` on is to have: a sum, anything, and a length or 0
abbrev pub Sum : List Float → List Float → ℕ → ℕ → Float → Type 0
Sum x y at j s = Summed (get_or x (at + j) nan) (get_or y (at + j) nan) s

abbrev pub Anything : ℕ → Float → Type 0
Anything j g = g ≡ g

abbrev pub Root : List Float → List Float → ℕ → ℕ → Float → Type 0
Root x y at j r = Judged (get_or x (at + j) nan) (get_or y (at + j) nan) r

abbrev pub invariant-loop-i : goal.invariant-loop-i
invariant-loop-i l = Passing (Sum l.x l.y l.at) l.sums 16 l.i

abbrev pub decreases-loop-i : goal.decreases-loop-i
decreases-loop-i l = 16 - l.i

abbrev pub invariant-loop-j : goal.invariant-loop-j
invariant-loop-j l = Passing Anything l.guesses 16 l.j

abbrev pub decreases-loop-j : goal.decreases-loop-j
decreases-loop-j l = 16 - l.j

abbrev pub invariant-loop-k : goal.invariant-loop-k
invariant-loop-k l = Passing (Root l.x l.y l.at) l.r 16 l.k

abbrev pub decreases-loop-k : goal.decreases-loop-k
decreases-loop-k l = 16 - l.k
