-- The bisection stops at a pattern that passes its test while the next one below `to` does not. Assumes nothing.
use mathlib.Core.Path.{◌≡◌, refl, sym, ap, ◌∙◌, subst}
use Prim.Native.Nat.{ℕ, zero, suc, ◌+◌, ◌*◌, ◌^◌, ◌≤◌, ◌<◌}
use native.Mathlib.Nat.{le_refl, le_trans, le-add_right, add_assoc, pow-succ'}
use native.Mathlib.Omega.{arith}
use mathlib.Core.Bool.{Bool, true, false, cond, ◌&&◌}
use lib.Dec.{ltb}
use borrow.Author.Tests.{lt-ltb, ltb-true}
use Rattle.atan2_rule.specs.Steps.{climb}

module _ (test : ℕ → Bool) (to : ℕ) where
  -- t passes, and t + n does not if it is below `to`
  pub record Held (n t : ℕ) : Type 0 where
    pub here : test t ≡ true
    pub under : t < to
    pub past : t + n < to → test (t + n) ≡ false

  twice : (t k : ℕ) → t + 2 ^ k + 2 ^ k ≡ t + 2 ^ suc k
  twice t k = add_assoc t (2 ^ k) (2 ^ k) ∙ ap (λ (n : ℕ). t + n) (double (2 ^ k) ∙ sym (pow-succ' 2 k))
    where
      double : (n : ℕ) → n + n ≡ 2 * n
      double n = omega arith

  -- one step: it is taken where the pattern below `to` passes
  held-step : (k t : ℕ) → Held (2 ^ suc k) t → Held (2 ^ k) (cond (ltb (t + 2 ^ k) to && test (t + 2 ^ k)) (t + 2 ^ k) t)
  held-step k t h = go (ltb (t + 2 ^ k) to) (test (t + 2 ^ k)) refl refl
    where
      go : (l b : Bool) → ltb (t + 2 ^ k) to ≡ l → test (t + 2 ^ k) ≡ b → Held (2 ^ k) (cond (l && b) (t + 2 ^ k) t)
      go true true e f =
          record { here = f; under = ltb-true (t + 2 ^ k) to e; past = λ (g : t + 2 ^ k + 2 ^ k < to). ap test (twice t k) ∙ h.past (subst (λ (n : ℕ). n < to) (twice t k) g) }
      go true false e f = record { here = h.here; under = h.under; past = λ (g : t + 2 ^ k < to). f }
      go false b e f = record { here = h.here; under = h.under; past = λ (g : t + 2 ^ k < to). cc (lt-ltb (t + 2 ^ k) to g) }

  grown : (l : Bool) (t n : ℕ) → t ≤ cond l (t + n) t
  grown true t n = le-add_right t n
  grown false t n = le_refl t

  pub climb-held : (k t : ℕ) → Held (2 ^ k) t → Held 1 (climb test to k t)
  unfolding climb
  climb-held zero t h = h
  climb-held (suc k) t h = climb-held k (cond (ltb (t + 2 ^ k) to && test (t + 2 ^ k)) (t + 2 ^ k) t) (held-step k t h)

  pub climb-from : (k t : ℕ) → t ≤ climb test to k t
  unfolding climb
  climb-from zero t = le_refl t
  climb-from (suc k) t = let n = cond (ltb (t + 2 ^ k) to && test (t + 2 ^ k)) (t + 2 ^ k) t in le_trans (grown (ltb (t + 2 ^ k) to && test (t + 2 ^ k)) t (2 ^ k)) (climb-from k n)
