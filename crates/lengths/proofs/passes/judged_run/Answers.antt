-- The invariants: each place before i has its sum, before j anything, before k its length or 0 (`Passing`). The measures are the places
-- left. Assumes nothing.
use borrow.Author.Rules.{rules}
use native.Mathlib.Omega.{arith}
use mathlib.Core.Path.{refl}
use Rattle.lengths.proofs.Far.{judged-at}
use Rattle.lengths.proofs.Lists.{passing-start, passing-more}
use Rattle.lengths.proofs.passes.judged_run.Goals as goal

pub loop-i-init : goal.loop-i-init
loop-i-init c = passing-start refl

pub bounds-x-at : goal.bounds-x-at
bounds-x-at c = search rules

pub bounds-y-at : goal.bounds-y-at
bounds-y-at c = search rules

pub square_sum-requires : goal.square_sum-requires
square_sum-requires c = search rules

pub loop-i-preserved : goal.loop-i-preserved
loop-i-preserved c =
    passing-more c.loop-i.invariant c.loop-i-test.true _ c.square_sum.ensures

pub loop-j-init : goal.loop-j-init
loop-j-init c = passing-start refl

pub guess-requires : goal.guess-requires
guess-requires c = (c.loop-i.invariant.done c.loop-j.j (omega (arith, c.loop-j-test.true, c.loop-i-test.false))).0

pub bounds-guesses-j : goal.bounds-guesses-j
bounds-guesses-j c = search rules

pub loop-j-preserved : goal.loop-j-preserved
loop-j-preserved c = passing-more c.loop-j.invariant c.loop-j-test.true _ refl

pub loop-k-init : goal.loop-k-init
loop-k-init c = passing-start refl

pub bounds-sums-k : goal.bounds-sums-k
bounds-sums-k c = search rules

pub offset_bounds-guesses-k : goal.offset_bounds-guesses-k
offset_bounds-guesses-k c = search rules

pub bounds-guesses-k : goal.bounds-guesses-k
bounds-guesses-k c = search rules

pub root_or_zero-requires : goal.root_or_zero-requires
root_or_zero-requires c = (c.loop-i.invariant.done c.loop-k.k (omega (arith, c.loop-k-test.true, c.loop-i-test.false))).0

pub loop-k-preserved : goal.loop-k-preserved
loop-k-preserved c =
    let t = c.loop-k-test.true in
    passing-more c.loop-k.invariant t _
    (judged-at _ _ _ _ (c.loop-i.invariant.done c.loop-k.k (omega (arith, t, c.loop-i-test.false))) c.root_or_zero.ensures)

pub returns : goal.returns
returns c = λ k h. c.loop-k.invariant.done k (omega (arith, h, c.loop-k-test.false))
