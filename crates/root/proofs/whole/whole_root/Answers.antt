-- Near the guess one square decides: with d = n - first * first below 4 * first + 4, the root is `first` where d is at most 2 * first, and one
-- more otherwise (`settled`). Elsewhere `walk` has the contract. Assumes nothing.
use native.Mathlib.Omega.{arith}
use borrow.Author.Tests.{ltb-true, ltb-false}
use mathlib.Core.Path.{◌≡◌, refl, sym, ap, subst, ◌∙◌}
use mathlib.Core.Bool.{Bool, true, false}
use lib.Dec.{ltb}
use mir.Val.{bool_byte}
use mathlib.Core.Logic.{◌⊎◌, inl, inr}
use Prim.Native.Nat.{ℕ, ◌+◌, ◌-◌, ◌*◌, ◌≤◌, ◌<◌}
use Rattle.root.proofs.Squares.{Root, square-next, is-whole-root}
use Rattle.root.proofs.whole.whole_root.Goals as goal

settled : (n f r : ℕ) → f * f ≤ n → n - f * f < 4 * f + 4 → ((n - f * f ≤ 2 * f) × (r ≡ 0)) ⊎ ((2 * f < n - f * f) × (r ≡ 1)) → Root n (f + r)
settled n f r a b (inl (h, e)) = let k : f + r ≡ f = omega (arith, e) in subst (Root n) (sym k) (record { low = a; high = omega (arith, square-next f, h) })
settled n f r a b (inr (h, e)) =
    let k : f + r ≡ f + 1 = omega (arith, e) in
    subst (Root n) (sym k) (record { low = omega (arith, square-next f, h); high = omega (arith, square-next (f + 1), square-next f, b) })

-- the number of the test is 1 where d is above e
beyond : (d e r : ℕ) → r ≡ bool_byte (ltb e d) → ((d ≤ e) × (r ≡ 0)) ⊎ ((e < d) × (r ≡ 1))
beyond d e r h = at (ltb e d) refl
  where
    at : (b : Bool) → ltb e d ≡ b → ((d ≤ e) × (r ≡ 0)) ⊎ ((e < d) × (r ≡ 1))
    at true k = inr (ltb-true e d k, h ∙ ap bool_byte k)
    at false k = inl (ltb-false e d k, h ∙ ap bool_byte k)

at_most_one : (d e r : ℕ) → ((d ≤ e) × (r ≡ 0)) ⊎ ((e < d) × (r ≡ 1)) → r ≤ 1
at_most_one d e r (inl (h, k)) = omega (arith, k)
at_most_one d e r (inr (h, k)) = omega (arith, k)

pub returns-then-rest-first : goal.returns-then-rest-first
returns-then-rest-first c = is-whole-root _ _ (settled _ _ _ c.if-square-n.true c.if-rest-first.true (beyond _ _ _ c.from.ensures))
