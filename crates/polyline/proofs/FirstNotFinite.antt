-- The first length that is not finite: all before it are, and it is not. It lies in the list, or is the list's length. Assumes nothing.
use mathlib.Core.Path.{◌≡◌, refl, ap, ◌∙◌}
use Prim.Native.Nat.{ℕ, zero, suc, ◌≤◌, ◌<◌}
use native.Mathlib.Nat.{le_of_suc-le-suc, not-suc-le-zero}
use native.Mathlib.Omega.{arith}
use mathlib.Core.Bool.{Bool, true, false, cond}
use mathlib.Core.List.{List, [], ◌∷◌}
use lib.ListN.{length}
use lib.Ieee.{Float, of_bits}
use lib.Ieee.Scale.{finite}
use Rattle.floats.specs.Floats.{zero_f}
use Rattle.table.specs.Lookup.{at}
use Rattle.polyline.specs.Lengths.{first_not_finite}

-- one more is finite
pub finite-more : (xs : List Float) (k : ℕ) → k ≤ first_not_finite xs → k < length xs → finite (at xs k) ≡ true → suc k ≤ first_not_finite xs
unfolding first_not_finite
finite-more [] k h l e = absurd (not-suc-le-zero l)
finite-more (x ∷ xs) zero h l e = rw e (omega arith)
finite-more (x ∷ xs) (suc k) h l e = next (finite x) h (λ g. finite-more xs k g (le_of_suc-le-suc l) e)
  where
    next : (b : Bool) → suc k ≤ cond b (suc (first_not_finite xs)) 0 → (k ≤ first_not_finite xs → suc k ≤ first_not_finite xs) → suc (suc k) ≤ cond b (suc (first_not_finite xs)) 0
    next true g rest = let m = rest (le_of_suc-le-suc g) in omega arith
    next false g rest = absurd (not-suc-le-zero g)

-- running lengths start at 0, which is finite
pub finite-start : (xs : List Float) → 0 < length xs → at xs 0 ≡ zero_f → 1 ≤ first_not_finite xs
finite-start xs some e = finite-more xs 0 (omega arith) some (ap finite e ∙ zero-finite)
  where
    zero-finite : finite zero_f ≡ true
    zero-finite = unfold zero_f of_bits in refl

-- the one that is not
pub finite-stop : (xs : List Float) (k : ℕ) → k ≤ first_not_finite xs → k < length xs → finite (at xs k) ≡ false → first_not_finite xs ≡ k
unfolding first_not_finite
finite-stop [] k h l e = absurd (not-suc-le-zero l)
finite-stop (x ∷ xs) zero h l e = rw e refl
finite-stop (x ∷ xs) (suc k) h l e = next (finite x) h (λ g. finite-stop xs k g (le_of_suc-le-suc l) e)
  where
    next : (b : Bool) → suc k ≤ cond b (suc (first_not_finite xs)) 0 → (k ≤ first_not_finite xs → first_not_finite xs ≡ k) → cond b (suc (first_not_finite xs)) 0 ≡ suc k
    next true g rest = ap suc (rest (le_of_suc-le-suc g))
    next false g rest = absurd (not-suc-le-zero g)

-- those before it
pub finite-before : (xs : List Float) (k : ℕ) → k < first_not_finite xs → finite (at xs k) ≡ true
unfolding first_not_finite
finite-before [] k h = absurd (not-suc-le-zero h)
finite-before (x ∷ xs) k h = go (finite x) refl k h (λ j g. finite-before xs j g)
  where
    go : (b : Bool) → finite x ≡ b → (k : ℕ) → k < cond b (suc (first_not_finite xs)) 0 → ((j : ℕ) → j < first_not_finite xs → finite (at xs j) ≡ true) → finite (at (x ∷ xs) k) ≡ true
    go true e zero g rest = e
    go true e (suc k) g rest = rest k (le_of_suc-le-suc g)
    go false e k g rest = absurd (not-suc-le-zero g)

-- no more than there are
pub finite-upto : (xs : List Float) → first_not_finite xs ≤ length xs
unfolding first_not_finite
finite-upto [] = omega arith
finite-upto (x ∷ xs) = go (finite x) (finite-upto xs)
  where
    go : (b : Bool) → first_not_finite xs ≤ length xs → cond b (suc (first_not_finite xs)) 0 ≤ suc (length xs)
    go true h = omega arith
    go false h = omega arith
