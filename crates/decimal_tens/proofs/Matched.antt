-- What a `match` on a number says of it at the last arm: it is none of the keys before. Assumes nothing.
use Prim.Native.Nat.{ℕ, zero, suc, ◌≤◌}
use mathlib.Core.Path.{◌≡◌}
use native.Mathlib.Omega.{arith}

-- k is none of the keys 0 to n - 1
abbrev pub NoneOf : ℕ → ℕ → Type 0
NoneOf zero k = Unit
NoneOf (suc n) k = NoneOf n k × (k ≡ n → ⊥)

pub none_of : (n k : ℕ) → NoneOf n k → n ≤ k
none_of zero k h = omega arith
none_of (suc n) k h = let l = none_of n k h.0 in let m = h.1 in omega arith

-- where k is at most n, it is n
pub last_of : (n k : ℕ) → NoneOf n k → k ≤ n → k ≡ n
last_of n k h l = let g = none_of n k h in omega arith
