-- `path_stored::counts::one_from` meets its contract. Assumes nothing.
use borrow.Author.Tests.{le-leb, lt-leb}
use mathlib.Core.Bool.{Bool, cond}
use mathlib.Core.Path.{sym, ap}
use Prim.Native.Nat.{ℕ}
use Rattle.path_stored.proofs.counts.one_from.Goals as goal

abbrev one : Bool → ℕ
one b = cond b 1 0

pub returns-then-least-kind : goal.returns-then-least-kind
returns-then-least-kind c = sym (ap one (le-leb _ _ c.if-least-kind.true))

pub returns-else-least-kind : goal.returns-else-least-kind
returns-else-least-kind c = sym (ap one (lt-leb _ _ c.if-least-kind.false))
