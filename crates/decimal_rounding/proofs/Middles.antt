-- A fraction between two middles is rounded to the float between them, on whichever side of it the fraction lies: also where that float is the first
-- of the next exponent (binary32). Assumes nothing.
use Prim.Native.Nat.{ℕ, zero, suc, ◌+◌, ◌-◌, ◌*◌, ◌^◌, ◌≤◌, ◌<◌}
use mathlib.Core.Path.{◌≡◌, refl, ap, sym, ◌∙◌, subst}
use mathlib.Core.Logic.{◌⊎◌, inl, inr, ⊎_elim}
use mathlib.Core.Bool.{Bool}
use native.Mathlib.Nat.{mul_assoc, suc-mul, pow-suc}
use native.Mathlib.Omega.{arith}
use lib.Dec.{lit≤, lit<}
use lib.Ieee.{binary32, units, round, of_bits}
use Rattle.floats.specs.Patterns.{hidden}
use Rattle.decimal_rounding.proofs.Compares.{below_or_not}
use Rattle.decimal_rounding.proofs.Halves.{near_down, near_up}
use Rattle.decimal_rounding.proofs.Pattern.{units-pattern, units-infinite}

-- one significand too many is the first of the next exponent
carried : (s : Bool) (k : ℕ) → k ≤ 253 → units binary32 s hidden (suc k) ≡ units binary32 s (2 ^ 24) k
carried s k h = go (below_or_not k 253)
  where
    go : (k < 253) ⊎ (253 ≤ k) → units binary32 s hidden (suc k) ≡ units binary32 s (2 ^ 24) k
    go (inl l) =
        units-pattern s hidden (suc k) (lit≤ tt) (inl (lit≤ tt)) l
        ∙ ap (λ (z : ℕ). of_bits binary32 z) (omega (arith, suc-mul k hidden))
        ∙ sym (units-pattern s (2 ^ 24) k (lit≤ tt) (inl (lit≤ tt)) h)
    go (inr l) =
        let e : k ≡ 253 = omega arith in
        ap (λ (z : ℕ). units binary32 s hidden (suc z)) e ∙ units-infinite s hidden 254 (lit≤ tt) ∙ sym (units-infinite s (2 ^ 24) 253 (lit≤ tt)) ∙ ap (λ (z : ℕ). units binary32 s (2 ^ 24) z) (sym e)

module _ (s : Bool) (num den m k : ℕ) (d : 0 < den) (few : m < 2 ^ 24) (full : (2 ^ 23 ≤ m) ⊎ (k ≡ 0)) (low : k ≤ 253) where
  pub between-middles : (n t : ℕ) → n ≡ num * 2 ^ 149 → t ≡ den * 2 ^ k → 2 * (m * t) + t < 2 * n → 2 * n < 2 * (m * t + t) + t → round binary32 s num den ≡ units binary32 s (suc m) k
  between-middles n t en et above below = go (below_or_not n (m * t + t)) (below_or_not (suc m) (2 ^ 24))
    where
      fuller : (2 ^ 23 ≤ suc m) ⊎ (k ≡ 0)
      fuller = ⊎_elim (λ (h : 2 ^ 23 ≤ m). inl (omega arith)) (λ h. inr h) full

      under : n < m * t + t → round binary32 s num den ≡ units binary32 s (suc m) k
      under l =
          near_up binary32 s num den m k d few full (subst (λ (z : ℕ). num * 2 ^ 149 < m * z + z) et (subst (λ (z : ℕ). z < m * t + t) en l))
          (inl (subst (λ (z : ℕ). 2 * (m * z) + z < 2 * (num * 2 ^ 149)) et (subst (λ (z : ℕ). 2 * (m * t) + t < 2 * z) en above)))

      over : m * t + t ≤ n → suc m < 2 ^ 24 → round binary32 s num den ≡ units binary32 s (suc m) k
      over g l =
          near_down binary32 s num den (suc m) k d l fuller (subst (λ (z : ℕ). suc m * z ≤ num * 2 ^ 149) et (subst (λ (z : ℕ). suc m * t ≤ z) en (omega (arith, suc-mul m t))))
          (inl (subst (λ (z : ℕ). 2 * (num * 2 ^ 149) < 2 * (suc m * z) + z) et (subst (λ (z : ℕ). 2 * z < 2 * (suc m * t) + t) en (omega (arith, suc-mul m t)))))

      next : den * 2 ^ suc k ≡ t * 2
      next = ap (λ (z : ℕ). den * z) (pow-suc 2 k) ∙ sym (mul_assoc den (2 ^ k) 2) ∙ ap (λ (z : ℕ). z * 2) (sym et)

      last : m * t + t ≤ n → 2 ^ 24 ≤ suc m → round binary32 s num den ≡ units binary32 s (suc m) k
      last g l =
          let e : 2 ^ 24 ≡ suc m = omega arith in
          let f : m * t + t ≡ 2 ^ 24 * t = sym (suc-mul m t) ∙ ap (λ (z : ℕ). z * t) (sym e) in
          near_down binary32 s num den hidden (suc k) d (lit< tt) (inl (lit≤ tt)) (subst (λ (z : ℕ). hidden * z ≤ num * 2 ^ 149) (sym next) (subst (λ (z : ℕ). hidden * (t * 2) ≤ z) en (omega (arith, f, g))))
          (inl (subst (λ (z : ℕ). 2 * (num * 2 ^ 149) < 2 * (hidden * z) + z) (sym next) (subst (λ (z : ℕ). 2 * z < 2 * (hidden * (t * 2)) + t * 2) en (omega (arith, f, below)))))
          ∙ carried s k low
          ∙ ap (λ (z : ℕ). units binary32 s z k) e

      go : (n < m * t + t) ⊎ (m * t + t ≤ n) → (suc m < 2 ^ 24) ⊎ (2 ^ 24 ≤ suc m) → round binary32 s num den ≡ units binary32 s (suc m) k
      go (inl l) x = under l
      go (inr g) (inl l) = over g l
      go (inr g) (inr l) = last g l
