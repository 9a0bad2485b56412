-- `decimal::magnitudes::narrow` meets its contract. Assumes nothing.
use Prim.Native.Nat.{ℕ, ◌<◌}
use mathlib.Core.Path.{◌≡◌}
use native.Mathlib.Omega.{arith}
use borrow.Author.Tests.{eq-eqb, ne_eqb}
use Rattle.decimal.proofs.magnitudes.narrow.Goals as goal

-- the number is not 0
pos_of : (w : ℕ) → (w ≡ 0 → ⊥) → 0 < w
pos_of w h = omega arith

pub returns-then-w-eq0 : goal.returns-then-w-eq0
returns-then-w-eq0 c = simp (eq-eqb _ _ c.if-w-eq0.true)

pub overflow_add-result : goal.overflow_add-result
overflow_add-result c = let t = c.requires (pos_of _ c.if-w-eq0.false) in record { fits = omega (arith, t.high) }

pub overflow_sub-result : goal.overflow_sub-result
overflow_sub-result c = let t = c.requires (pos_of _ c.if-w-eq0.false) in omega (arith, t.low)

pub returns : goal.returns
returns c = simp (ne_eqb _ _ c.if-w-eq0.false)
