-- The invariant: q is the root of n * 4^i, with the rest (`Longer`). Assumes nothing.
use native.Mathlib.Omega.{arith}
use native.Mathlib.Nat.{mul-le-mul, le_of_lt, mul-one}
use mathlib.Core.Path.{◌≡◌, ap, ◌∙◌}
use Prim.Native.Nat.{ℕ, ◌+◌, ◌-◌, ◌*◌, ◌^◌, ◌≤◌, ◌<◌}
use Rattle.root.proofs.Squares.{square-next}
use Rattle.lengths.proofs.Longer.{Longer, longer-few, longer-zero, longer-one}
use Rattle.lengths.proofs.exact.root_digits.Goals as goal
use Rattle.lengths.proofs.exact.root_digits.Goals.{then-rest-q, else-rest-q}

square_le : (q : ℕ) → q < 2 ^ 27 → q * q ≤ 2 ^ 27 * 2 ^ 27
square_le q h = mul-le-mul (le_of_lt h) (le_of_lt h)

started : (n q : ℕ) → q * q ≤ n → n < (q + 1) * (q + 1) → q < 2 ^ 27 → Longer n q (n - q * q) 0
started n q a b f = record { upto = omega arith; few = f; left = omega (arith, square-next q); same = omega (arith, mul-one n) }

ended : (n q rest i : ℕ) → Longer n q rest i → 27 ≤ i → (q * q ≤ n * 2 ^ 54) × (n * 2 ^ 54 < (q + 1) * (q + 1)) × (q < 2 ^ 54)
ended n q rest i l h =
    let e : i ≡ 27 = omega (arith, l.upto) in
    let s : q * q + rest ≡ n * 2 ^ 54 = l.same ∙ ap (λ (z : ℕ). n * 2 ^ (z + z)) e in
    (omega arith, omega (arith, square-next q, l.left), longer-few l)

pub loop-digit-preserved : goal.loop-digit-preserved
loop-digit-preserved c =
    let l = c.loop-digit.invariant in
    let t = c.loop-digit-test.true in
    elim c.if-rest-q.branch [
      | then-rest-q w ↦ simp (w.q-is, w.rest-is) (longer-zero l t w.if-rest-q.true)
      | else-rest-q w ↦ simp (w.q-is, w.rest-is) (longer-one l t w.if-rest-q.false)
    ]
