-- `table::table_of` meets its contract. The invariant: the entries up to k are the running sums of the steps, and the total is the last of them. The measure is the steps left.
-- Assumes nothing.
use borrow.Author.Rules.{rules}
use mathlib.Core.Path.{◌≡◌, refl, sym, ap}
use Prim.Native.Nat.{suc}
use lib.ListN.{length}
use Rattle.floats.specs.Floats.{zero_f}
use Rattle.table.proofs.Sums.{summing_start, summing-more, summing-done}
use Rattle.table.proofs.tables.table_of.Goals as goal

pub loop-k-init : goal.loop-k-init
unfolding zero_f
loop-k-init c = summing_start c.args.steps _ (sym (ap suc (search rules))) refl

pub loop-k-preserved : goal.loop-k-preserved
loop-k-preserved c = let n = (let size_here : length c.args.steps ≡ 31 = search rules in size_here) in summing-more c.loop-k.invariant (search rules)

pub returns : goal.returns
returns c = let n = (let size_here : length c.args.steps ≡ 31 = search rules in size_here) in
    let all = summing-done c.loop-k.invariant (search rules) in
    record { entries = all.0; total = all.1 }
