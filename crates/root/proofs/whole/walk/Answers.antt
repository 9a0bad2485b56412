-- First loop: q is below 2^26, and falls. Second loop: besides, its square is at most n, and q rises towards 2^26. At the end q has both
-- bounds of the whole root, of which there is one (`is-whole-root`). Assumes nothing.
use native.Mathlib.Omega.{arith}
use native.Mathlib.Nat.{mul-le-mul, lt_of_not-le, not-le_of_lt, le_of_lt, le_trans, lt_of_le_of_lt, not-suc-le-zero, zero-lt-suc}
use Prim.Native.Nat.{ℕ, zero, suc, ◌+◌, ◌*◌, ◌≤◌, ◌<◌, ◌^◌}
use Rattle.root.proofs.Squares.{is-whole-root}
use Rattle.root.proofs.whole.walk.Goals as goal

positive : (n q : ℕ) → n < q * q → 0 < q
positive n zero h = absurd (not-suc-le-zero h)
positive n (suc k) h = zero-lt-suc k

square_le : (q : ℕ) → q < 2 ^ 26 → q * q ≤ 2 ^ 26 * 2 ^ 26
square_le q h = mul-le-mul (le_of_lt h) (le_of_lt h)

next_le : (q : ℕ) → q < 2 ^ 26 → (q + 1) * (q + 1) ≤ 2 ^ 26 * 2 ^ 26
next_le q h = let k : q + 1 ≤ 2 ^ 26 = omega arith in mul-le-mul k k

grow : (n q : ℕ) → n < 2 ^ 50 → (q + 1) * (q + 1) ≤ n → q + 1 < 2 ^ 26
grow n q h k = lt_of_not-le (λ (g : 2 ^ 26 ≤ q + 1). not-le_of_lt (lt_of_le_of_lt k h) (le_trans (omega arith) (mul-le-mul g g)))

pub returns : goal.returns
returns c = is-whole-root _ _ (record { low = c.loop-q-2.invariant.1; high = c.loop-q-2-test.false })
