-- `scan` over any element type and any test: what a loop knows on passing an element, on stopping at one and at the end, and where a scan
-- ends. Assumes nothing.
use mathlib.Core.Path.{◌≡◌, refl, sym, ap, subst, ◌∙◌}
use mathlib.Core.Bool.{Bool, true, false, cond}
use mathlib.Core.List.{List, [], ◌∷◌}
use Prim.Native.Nat.{ℕ, zero, suc, ◌+◌, ◌-◌, ◌≤◌, ◌<◌}
use native.Mathlib.Omega.{arith}
use native.Mathlib.Numerals.{add-one}
use lib.Dec.{ltb}
use borrow.Author.Tests.{ltb-true, ltb-false}
use lib.ListN.{length, drop, get_or, drop_of_length-le, length-drop}
use lib.Seq.{drop-cons, get_or-drop}
use Rattle.scan.specs.Scan.{leading, scan}

-- ---- one element

module _ {A : Type 0} (test : A → Bool) (xs : List A) (d : A) (i : ℕ) (inside : i < length xs) where
  split : leading test (drop i xs) ≡ cond (test (get_or xs i d)) (suc (leading test (drop (suc i) xs))) 0
  unfolding leading
  split = ap (leading test) (drop-cons xs i d inside)

  -- the test passes at i: the scan from i + 1 ends where the scan from i does
  pub scan-pass : test (get_or xs i d) ≡ true → scan test xs (i + 1) ≡ scan test xs i
  unfolding scan
  scan-pass passes =
      let e : leading test (drop i xs) ≡ suc (leading test (drop (suc i) xs)) = split ∙ ap (λ t. cond t (suc (leading test (drop (suc i) xs))) 0) passes in
      rw add-one (omega arith)

  -- the test fails at i: the scan ends there
  pub scan-stop : test (get_or xs i d) ≡ false → scan test xs i ≡ i
  unfolding scan
  scan-stop fails =
      let e : leading test (drop i xs) ≡ 0 = split ∙ ap (λ t. cond t (suc (leading test (drop (suc i) xs))) 0) fails in
      omega arith

-- nothing is left: the scan ends where it starts
pub scan-end : {A : Type 0} (test : A → Bool) (xs : List A) (i : ℕ) → length xs ≤ i → scan test xs i ≡ i
unfolding scan leading
scan-end test xs i past =
    let e : leading test (drop i xs) ≡ 0 = ap (leading test) (drop_of_length-le xs past) in
    omega arith

-- ---- where a scan ends

-- what holds of `leading` at a list's tail, at its test's two answers
step-le : {A : Type 0} (test : A → Bool) (y : A) (ys : List A) → leading test ys ≤ length ys → (t : Bool) → cond t (suc (leading test ys)) 0 ≤ length (y ∷ ys)
step-le test y ys h true = omega arith
step-le test y ys h false = omega arith

leading_le : {A : Type 0} (test : A → Bool) (ys : List A) → leading test ys ≤ length ys
unfolding leading
leading_le test [] = omega arith
leading_le test (y ∷ ys) = step-le test y ys (leading_le test ys) (test y)

module _ {A : Type 0} (test : A → Bool) (d : A) where
  step-passed :
      (y : A) (ys : List A) → ((k : ℕ) → k < leading test ys → test (get_or ys k d) ≡ true) → (t : Bool) → test y ≡ t
      → (k : ℕ) → k < cond t (suc (leading test ys)) 0 → test (get_or (y ∷ ys) k d) ≡ true
  step-passed y ys rest true e zero h = e
  step-passed y ys rest true e (suc k) h = rest k (omega arith)
  step-passed y ys rest false e k h = absurd (omega arith)

  leading-passed : (ys : List A) (k : ℕ) → k < leading test ys → test (get_or ys k d) ≡ true
  unfolding leading
  leading-passed [] k h = absurd (omega arith)
  leading-passed (y ∷ ys) k h = step-passed y ys (leading-passed ys) (test y) refl k h

  step-stopped :
      (y : A) (ys : List A) → (leading test ys < length ys → test (get_or ys (leading test ys) d) ≡ false) → (t : Bool) → test y ≡ t
      → cond t (suc (leading test ys)) 0 < length (y ∷ ys) → test (get_or (y ∷ ys) (cond t (suc (leading test ys)) 0) d) ≡ false
  step-stopped y ys rest true e h = rest (omega arith)
  step-stopped y ys rest false e h = e

  leading-stopped : (ys : List A) → leading test ys < length ys → test (get_or ys (leading test ys) d) ≡ false
  unfolding leading
  leading-stopped [] h = absurd (omega arith)
  leading-stopped (y ∷ ys) h = step-stopped y ys (leading-stopped ys) (test y) refl h

module _ {A : Type 0} (test : A → Bool) (xs : List A) where
  -- a scan does not go back
  pub scan-onward : (i : ℕ) → i ≤ scan test xs i
  unfolding scan
  scan-onward i = omega arith

  -- a scan stays within the list
  pub scan-within : (i : ℕ) → i ≤ length xs → scan test xs i ≤ length xs
  unfolding scan
  scan-within i inside =
      let h : leading test (drop i xs) ≤ length xs - i = subst (λ (n : ℕ). leading test (drop i xs) ≤ n) (length-drop i xs) (leading_le test (drop i xs)) in
      omega arith

  module _ (d : A) (i : ℕ) where
    -- every element that a scan goes past passes the test
    pub scan-passed : (k : ℕ) → i ≤ k → k < scan test xs i → test (get_or xs k d) ≡ true
    unfolding scan
    scan-passed k from upto =
        let e : i + (k - i) ≡ k = omega arith in
        let h : k - i < leading test (drop i xs) = omega arith in
        subst (λ (n : ℕ). test (get_or xs n d) ≡ true) e (ap test (sym (get_or-drop i xs (k - i) d)) ∙ leading-passed test d (drop i xs) (k - i) h)

    -- the element at which a scan ends fails it
    pub scan-stopped : scan test xs i < length xs → test (get_or xs (scan test xs i) d) ≡ false
    unfolding scan
    scan-stopped inside =
        let l : length (drop i xs) ≡ length xs - i = length-drop i xs in
        let h : leading test (drop i xs) < length (drop i xs) = omega arith in
        ap test (sym (get_or-drop i xs (leading test (drop i xs)) d)) ∙ leading-stopped test d (drop i xs) h

    -- where a scan ends, another does not move
    pub scan-again : scan test xs (scan test xs i) ≡ scan test xs i
    scan-again = go (ltb (scan test xs i) (length xs)) refl
      where
        go : (t : Bool) → ltb (scan test xs i) (length xs) ≡ t → scan test xs (scan test xs i) ≡ scan test xs i
        go true e = let h = ltb-true _ _ e in scan-stop test xs d (scan test xs i) h (scan-stopped h)
        go false e = scan-end test xs (scan test xs i) (ltb-false _ _ e)
