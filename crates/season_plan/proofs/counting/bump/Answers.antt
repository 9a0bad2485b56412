-- `season_plan::counting::bump` meets its contract. Assumes nothing.
use borrow.Author.Rules.{rules}
use mathlib.Core.Path.{refl}
use native.Mathlib.Omega.{arith}
use Rattle.season_plan.specs.Rows.{marked}
use Rattle.season_plan.proofs.counting.bump.Goals as goal

pub overflow_add-counts : goal.overflow_add-counts
overflow_add-counts c = record { fits = omega (arith, c.requires.1.room c.args.row) }

pub returns : goal.returns
unfolding marked
returns c = refl
