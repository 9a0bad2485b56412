-- `table::searches::first_from` meets its contract. The invariant: all lengths before k are below the target. The measure is what is left of the lengths. Assumes nothing.
use mathlib.Core.Path.{sym, subst}
use mathlib.Core.Bool.{Bool, not}
use lib.Dec.{T}
use Rattle.table.proofs.Search.{bracket-passed, bracket-down, bracket-done}
use borrow.Author.Rules.{rules}
use Rattle.table.proofs.searches.first_from.Goals as goal

pub loop-k-init : goal.loop-k-init
loop-k-init c = bracket-passed _ _ _ c.passed_near-k.ensures

pub returns-then-size-k : goal.returns-then-size-k
returns-then-size-k c = bracket-done c.loop-k.invariant (search rules)

-- the length at k is not

pub returns-else-lengths-k : goal.returns-else-lengths-k
returns-else-lengths-k c =
    bracket-done (bracket-down c.loop-k.k c.loop-k.invariant (search rules) (search rules) (subst (λ (b : Bool). T (not b)) (sym c.if-lengths-k.false) tt)) (search rules)
