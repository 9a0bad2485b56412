-- The larger of the two less the smaller. Assumes nothing.
use borrow.Author.Tests.{le-leb, lt-leb}
use Prim.Native.Nat.{ℕ, ◌-◌, ◌≤◌, ◌<◌}
use mathlib.Core.Path.{◌≡◌, sym, ap, ◌∙◌}
use mathlib.Core.Bool.{Bool, cond}
use Rattle.atan2_rule.specs.Steps.{apart, miss_at}
use Rattle.atan2.proofs.search.miss_at.Goals as goal

apart-up : (a b : ℕ) → a ≤ b → b - a ≡ apart a b
apart-up a b h = sym (ap (λ (t : Bool). cond t (b - a) (a - b)) (le-leb a b h))

apart-down : (a b : ℕ) → b < a → a - b ≡ apart a b
apart-down a b h = sym (ap (λ (t : Bool). cond t (b - a) (a - b)) (lt-leb a b h))

pub returns-then-s : goal.returns-then-s
unfolding miss_at
returns-then-s c =
    apart-up c.balance-s.result.behind c.balance-s.result.ahead c.if-s.true ∙ ap (λ (n : ℕ). apart n c.balance-s.result.ahead) c.balance-s.ensures.1 ∙ ap (apart _) c.balance-s.ensures.0

pub returns-else-s : goal.returns-else-s
unfolding miss_at
returns-else-s c =
    apart-down c.balance-s.result.behind c.balance-s.result.ahead c.if-s.false ∙ ap (λ (n : ℕ). apart n c.balance-s.result.ahead) c.balance-s.ensures.1 ∙ ap (apart _) c.balance-s.ensures.0
