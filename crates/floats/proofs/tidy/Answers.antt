-- `floats::tidy` meets its contract: what differs from itself is the logic's one NaN, and 0 / 0 is it. Assumes nothing.
use borrow.Author.Rules.{rules}
use mathlib.Core.Path.{sym, subst}
use lib.Dec.{T}
use lib.Ieee.{div, of_bits}
use lib.Ieee.Compare.{differs_from_itself}
use Rattle.floats.proofs.tidy.Goals as goal

pub returns-then-x : goal.returns-then-x
unfolding div of_bits
returns-then-x c = sym (differs_from_itself c.args.x (subst T (sym c.if-x.true) tt))
