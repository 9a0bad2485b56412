-- The multiple of a step that is nearest to a number: no other is nearer, one as near is the next one at a half, and there the nearest is even.
-- Assumes nothing.
use Prim.Native.Nat.{ℕ, suc, ◌+◌, ◌-◌, ◌*◌, ◌/◌, ◌%◌, ◌≤◌, ◌<◌, compare, Ordering}
use mathlib.Core.Path.{◌≡◌, refl, sym, ap, subst}
use mathlib.Core.Logic.{◌⊎◌, inl, inr}
use native.Mathlib.Nat.{le_of_eq, le_trans, mul-le-mul_right, suc-mul, div-add-mod', mod-lt}
use native.Mathlib.Omega.{arith}
use lib.Ieee.{nearest}
use lib.Ieee.Nearest.{closest}
use Rattle.root.proofs.Rounded.{Near}
use Rattle.decimal_rounding.proofs.Compares.{below_or_not, lt-of-compare, gt-of-compare}
use Rattle.decimal_nearest.specs.Nearest.{apart}

-- a multiple below another is a step below it at least
step-below : (c d u : ℕ) → d < c → d * u + u ≤ c * u
step-below c d u l = le_trans (le_of_eq (sym (suc-mul d u))) (mul-le-mul_right u l)

module _ (n u c : ℕ) (near : Near n u c) where
  pub multiple-nearest : (d : ℕ) → apart n (c * u) ≤ apart n (d * u)
  multiple-nearest d = go (below_or_not d c) (below_or_not c d)
    where
      go : (d < c) ⊎ (c ≤ d) → (c < d) ⊎ (d ≤ c) → apart n (c * u) ≤ apart n (d * u)
      go (inl l) y = omega (arith, step-below c d u l, near.under, near.over)
      go (inr g) (inl l) = omega (arith, step-below d c u l, near.under, near.over)
      go (inr g) (inr h) = let e : c ≡ d = omega arith in le_of_eq (ap (λ (z : ℕ). apart n (z * u)) e)

  module _ (d : ℕ) (other : d ≡ c → ⊥) (level : apart n (d * u) ≡ apart n (c * u)) where
    pub half : 2 * apart n (c * u) ≡ u
    half = go (below_or_not d c) (below_or_not c d)
      where
        go : (d < c) ⊎ (c ≤ d) → (c < d) ⊎ (d ≤ c) → 2 * apart n (c * u) ≡ u
        go (inl l) y = omega (arith, step-below c d u l, near.under, near.over)
        go (inr g) (inl l) = omega (arith, step-below d c u l, near.under, near.over)
        go (inr g) (inr h) = absurd (other (omega arith))

    pub neighbour : 0 < u → (d ≡ suc c) ⊎ (c ≡ suc d)
    neighbour some = go (below_or_not d c) (below_or_not c d) (below_or_not (suc d) c) (below_or_not (suc c) d)
      where
        go : (d < c) ⊎ (c ≤ d) → (c < d) ⊎ (d ≤ c) → (suc d < c) ⊎ (c ≤ suc d) → (suc c < d) ⊎ (d ≤ suc c) → (d ≡ suc c) ⊎ (c ≡ suc d)
        go (inl l) y (inl k) x = absurd (omega (arith, step-below c (suc d) u k, suc-mul d u, near.under, near.over))
        go (inl l) y (inr k) x = inr (omega arith)
        go (inr g) (inl l) y (inl k) = absurd (omega (arith, step-below d (suc c) u k, suc-mul c u, near.under, near.over))
        go (inr g) (inl l) y (inr k) = inl (omega arith)
        go (inr g) (inr h) y x = absurd (other (omega arith))

-- ---- at a half the even one is taken

taken-even : (q u r : ℕ) (o : Ordering) → r < u → compare (r * 2) u ≡ o → 2 * apart (q * u + r) (nearest q o * u) ≡ u → nearest q o % 2 ≡ 0
taken-even q u r Ordering.lt l e h = absurd (omega (arith, lt-of-compare (r * 2) u e))
taken-even q u r Ordering.eq l e h = omega arith
taken-even q u r Ordering.gt l e h = absurd (omega (arith, gt-of-compare (r * 2) u e, suc-mul q u))

pub half-even : (n u : ℕ) → 0 < u → 2 * apart n (closest n u * u) ≡ u → closest n u % 2 ≡ 0
half-even n u some h =
    taken-even (n / u) u (n % u) (compare (n % u * 2) u) (mod-lt n some) refl
    (subst (λ (z : ℕ). 2 * apart z (closest n u * u) ≡ u) (sym (div-add-mod' n u)) h)
