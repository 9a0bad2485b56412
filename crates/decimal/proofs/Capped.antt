-- Capped exponents: their sums, and where the difference of two such sums is exact. Assumes nothing.
use Prim.Native.Nat.{ℕ, ◌+◌, ◌-◌, ◌^◌, ◌≤◌, ◌<◌}
use mathlib.Core.Path.{◌≡◌, ap, sym, ◌∙◌}
use mathlib.Core.Logic.{◌⊎◌, inl, inr}
use native.Mathlib.Omega.{arith}
use Rattle.decimal_rounding.proofs.Compares.{below_or_not}
use Rattle.decimal_digits.specs.Exponent.{most, capped}
use Rattle.decimal_digits.proofs.Capping.{capped_small, capped-large, capped-either}

pub sum-capped : (a b n : ℕ) → b ≡ capped n → a < most → most - a < b → most ≡ capped (a + n)
sum-capped a b n e h l = go (capped-either n)
  where
    go : ((capped n ≡ n) × (n < most)) ⊎ ((capped n ≡ most) × (most ≤ n)) → most ≡ capped (a + n)
    go (inl x) = let f : b ≡ n = e ∙ x.0 in sym (capped-large (a + n) (omega arith))
    go (inr x) = sym (capped-large (a + n) (omega arith))

pub sum-exact : (a b n : ℕ) → b ≡ capped n → a < most → b ≤ most - a → a + b ≡ capped (a + n)
sum-exact a b n e h l = go (capped-either n)
  where
    at_most : b ≡ n → (a + n < most) ⊎ (a + n ≡ most) → a + b ≡ capped (a + n)
    at_most f (inl g) = ap (λ (z : ℕ). a + z) f ∙ sym (capped_small (a + n) g)
    at_most f (inr g) = ap (λ (z : ℕ). a + z) f ∙ g ∙ sym (capped-large (a + n) (omega arith))

    either : a + n ≤ most → (a + n < most) ⊎ (a + n ≡ most)
    either h = pick (below_or_not (a + n) most)
      where
        pick : (a + n < most) ⊎ (most ≤ a + n) → (a + n < most) ⊎ (a + n ≡ most)
        pick (inl g) = inl g
        pick (inr g) = inr (omega arith)

    go : ((capped n ≡ n) × (n < most)) ⊎ ((capped n ≡ most) × (most ≤ n)) → a + b ≡ capped (a + n)
    go (inl x) = let f : b ≡ n = e ∙ x.0 in at_most f (either (omega arith))
    go (inr x) = let f : b ≡ most = e ∙ x.0 in let z : a ≡ 0 = omega arith in omega (arith, capped-large (a + n) (omega arith))

-- ---- the difference

-- a and c are below 2 ^ 63 + 64, and one of the exponents added to them is 0
pub record Apart (a up c down i : ℕ) : Type 0 where
  pub at-or-past : c + down + i ≡ a + up
  pub up-exact : capped up ≡ up
  pub down-exact : capped down ≡ down

module _ (a up c down : ℕ) (small : a < 2 ^ 63 + 64) (few : c < 2 ^ 63) where
  pub under : (up ≡ 0) ⊎ (down ≡ 0) → capped (a + up) < capped (c + down) → a + up < c + down
  under one h = go one (capped-either (a + up)) (capped-either (c + down))
    where
      go : (up ≡ 0) ⊎ (down ≡ 0) → ((capped (a + up) ≡ a + up) × (a + up < most)) ⊎ ((capped (a + up) ≡ most) × (most ≤ a + up))
          → ((capped (c + down) ≡ c + down) × (c + down < most)) ⊎ ((capped (c + down) ≡ most) × (most ≤ c + down)) → a + up < c + down
      go o (inl x) (inl y) = omega arith
      go o (inl x) (inr y) = omega arith
      go o (inr x) (inl y) = absurd (omega arith)
      go o (inr x) (inr y) = absurd (omega arith)

  pub past : (up ≡ 0) ⊎ (down ≡ 0) → capped (c + down) ≤ capped (a + up) → 102 < capped (a + up) - capped (c + down) → c + down + 102 < a + up
  past one h g = go one (capped-either (a + up)) (capped-either (c + down))
    where
      go : (up ≡ 0) ⊎ (down ≡ 0) → ((capped (a + up) ≡ a + up) × (a + up < most)) ⊎ ((capped (a + up) ≡ most) × (most ≤ a + up))
          → ((capped (c + down) ≡ c + down) × (c + down < most)) ⊎ ((capped (c + down) ≡ most) × (most ≤ c + down)) → c + down + 102 < a + up
      go o (inl x) (inl y) = omega arith
      go o (inl x) (inr y) = absurd (omega arith)
      go o (inr x) (inl y) = omega arith
      go o (inr x) (inr y) = absurd (omega arith)

  pub near : (up ≡ 0) ⊎ (down ≡ 0) → capped (c + down) ≤ capped (a + up) → capped (a + up) - capped (c + down) ≤ 102 → Apart a up c down (capped (a + up) - capped (c + down))
  near one h g = go one (capped-either (a + up)) (capped-either (c + down))
    where
      exact : a + up < most → c + down < most → capped (a + up) ≡ a + up → capped (c + down) ≡ c + down → Apart a up c down (capped (a + up) - capped (c + down))
      exact p q x y = record { at-or-past = omega arith; up-exact = capped_small up (omega arith); down-exact = capped_small down (omega arith) }

      go : (up ≡ 0) ⊎ (down ≡ 0) → ((capped (a + up) ≡ a + up) × (a + up < most)) ⊎ ((capped (a + up) ≡ most) × (most ≤ a + up))
          → ((capped (c + down) ≡ c + down) × (c + down < most)) ⊎ ((capped (c + down) ≡ most) × (most ≤ c + down)) → Apart a up c down (capped (a + up) - capped (c + down))
      go o (inl x) (inl y) = exact x.1 y.1 x.0 y.0
      go (inl z) (inl x) (inr y) = absurd (omega arith)
      go (inr z) (inl x) (inr y) = absurd (omega arith)
      go (inl z) (inr x) y = absurd (omega arith)
      go (inr z) (inr x) (inl y) = absurd (omega arith)
      go (inr z) (inr x) (inr y) = absurd (omega arith)

-- a number that is not above the cap is its own capped number
pub capped-self : (n : ℕ) → n ≤ most → n ≡ capped n
capped-self n h = go (capped-either n)
  where
    go : ((capped n ≡ n) × (n < most)) ⊎ ((capped n ≡ most) × (most ≤ n)) → n ≡ capped n
    go (inl x) = sym x.0
    go (inr x) = omega arith
