-- `table::searches::passed_near` meets its contract: where the length before `near` is below the target, each before that is. Assumes nothing.
use mathlib.Core.Path.{sym, subst}
use lib.Dec.{T}
use Rattle.table.proofs.Search.{passed_to}
use borrow.Author.Rules.{rules}
use Rattle.table.proofs.searches.passed_near.Goals as goal

pub returns-then-ahead-le8 : goal.returns-then-ahead-le8
returns-then-ahead-le8 c =
    passed_to _ _ c.args.near c.requires (search rules) (search rules) (subst T (sym c.if-lengths-near.true) tt)

pub returns-then-target-lengths : goal.returns-then-target-lengths
returns-then-target-lengths c =
    passed_to _ _ c.args.near c.requires (search rules) (search rules) (subst T (sym c.if-lengths-near.true) tt)
