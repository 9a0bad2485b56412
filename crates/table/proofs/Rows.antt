-- A table as one row, its entries and then its total: it is sound where the whole row climbs from a first entry of 0 and the total is not above the entry before it. Assumes nothing.
use mathlib.Core.Path.{◌≡◌, refl, sym, ap, ◌∙◌, subst}
use Prim.Native.Nat.{ℕ, suc, ◌-◌, ◌<◌}
use native.Mathlib.Nat.{le_refl, not-suc-le-zero}
use native.Mathlib.Omega.{arith}
use mathlib.Core.Bool.{Bool, true, false, ◌&&◌, and_assoc}
use mathlib.Core.List.{List, [], ◌∷◌, ◌++◌}
use lib.ListN.{length, take, length-take}
use lib.Seq.{take-suc, take-length, get_or-take}
use lib.Dec.{T}
use lib.Ieee.{Float, nan, le, eq}
use lib.Ieee.Fits.{and_l, and_r, and_i}
use lib.Ieee.Scale.{finite}
use Rattle.floats.specs.Floats.{zero_f}
use Rattle.floats.proofs.Tests.{same_test}
use Rattle.floats.proofs.Order.{le_antisym, le-le-trans, eq→le, eq-sym}
use Rattle.floats.proofs.Between.{finite-between, nonneg-from}
use Rattle.floats.proofs.Constants.{zero_held}
use Rattle.table.specs.Lookup.{at, last_of}
use Rattle.table.specs.Sound.{all_finite, climbs, lengths_are_sound, table_is_sound, row_is_sound}
use Rattle.table.proofs.Lengths.{finite-at, climbs-at, rises-le}
use Rattle.table.proofs.Testing.{sound-tests}

and_yes : (a : Bool) → (a && true) ≡ a
and_yes true = refl
and_yes false = refl

-- ---- one number more
climbs-snoc : (from t : Float) (xs : List Float) → climbs from (xs ++ t ∷ []) ≡ (climbs from xs && le (at (from ∷ xs) (length xs)) t)
unfolding climbs
climbs-snoc from t [] = and_yes (le from t)
climbs-snoc from t (x ∷ xs) = ap (λ (b : Bool). le from x && b) (climbs-snoc x t xs) ∙ sym (and_assoc (le from x) (climbs x xs) (le (at (x ∷ xs) (length xs)) t))

finite-snoc : (t : Float) (xs : List Float) → all_finite (xs ++ t ∷ []) ≡ (all_finite xs && finite t)
unfolding all_finite
finite-snoc t [] = and_yes (finite t)
finite-snoc t (x ∷ xs) = ap (λ (b : Bool). finite x && b) (finite-snoc t xs) ∙ sym (and_assoc (finite x) (all_finite xs) (finite t))

-- the entry before the total is the last of those that climb from 0
last-at : (es : List Float) → 0 < length es → at (zero_f ∷ es) (length es) ≡ at es (last_of es)
last-at [] h = absurd (not-suc-le-zero h)
last-at (x ∷ xs) h = let e : length xs ≡ length (x ∷ xs) - 1 = omega arith in ap (at (x ∷ xs)) e

-- ---- the tests of a row
module _ (es : List Float) (t : Float) (some : 0 < length es) where
  abbrev last : Float
  last = at es (last_of es)

  abbrev row : List Float
  row = es ++ t ∷ []

  rises : T (climbs zero_f row) → T (climbs zero_f es) × T (le last t)
  rises h =
      let both = subst T (climbs-snoc zero_f t es) h in
      let top = and_r (climbs zero_f es) (le (at (zero_f ∷ es) (length es)) t) both in
      (and_l (climbs zero_f es) (le (at (zero_f ∷ es) (length es)) t) both, subst (λ (x : Float). T (le x t)) (last-at es some) top)

  sound-of : T (lengths_are_sound row && eq (at es 0) zero_f && le t last) → T (eq (at es 0) zero_f && lengths_are_sound es && eq t last)
  unfolding lengths_are_sound
  sound-of h =
      let two = and_l (lengths_are_sound row && eq (at es 0) zero_f) (le t last) h in
      let whole = and_l (lengths_are_sound row) (eq (at es 0) zero_f) two in
      let up = rises (and_r (all_finite row) (climbs zero_f row) whole) in
      let fine = and_l (all_finite es) (finite t) (subst T (finite-snoc t es) (and_l (all_finite row) (climbs zero_f row) whole)) in
      and_i (eq (at es 0) zero_f && lengths_are_sound es) (eq t last)
      (and_i (eq (at es 0) zero_f) (lengths_are_sound es) (and_r (lengths_are_sound row) (eq (at es 0) zero_f) two) (and_i (all_finite es) (climbs zero_f es) fine up.0))
      (le_antisym t last (and_r (lengths_are_sound row && eq (at es 0) zero_f) (le t last) h) up.1)

  of-sound : T (eq (at es 0) zero_f && lengths_are_sound es && eq t last) → T (lengths_are_sound row && eq (at es 0) zero_f && le t last)
  unfolding lengths_are_sound
  of-sound h =
      let two = and_l (eq (at es 0) zero_f && lengths_are_sound es) (eq t last) h in
      let same = and_r (eq (at es 0) zero_f && lengths_are_sound es) (eq t last) h in
      let sound = and_r (eq (at es 0) zero_f) (lengths_are_sound es) two in
      let fine = and_l (all_finite es) (climbs zero_f es) sound in
      let up = and_r (all_finite es) (climbs zero_f es) sound in
      let above = eq→le last t (eq-sym t last same) in
      let low = lowest up in
      let there = finite-at es fine (last_of es) inside in
      let end = finite-between zero_f t last zero_held.nn (nonneg-from zero_f last zero_held.nn there low) (le-le-trans zero_f last t low above) (eq→le t last same) in
      and_i (lengths_are_sound row && eq (at es 0) zero_f) (le t last)
      (and_i (lengths_are_sound row) (eq (at es 0) zero_f)
      (and_i (all_finite row) (climbs zero_f row) (subst T (sym (finite-snoc t es)) (and_i (all_finite es) (finite t) fine end))
      (subst T (sym (climbs-snoc zero_f t es)) (and_i (climbs zero_f es) (le (at (zero_f ∷ es) (length es)) t) up (subst (λ (x : Float). T (le x t)) (sym (last-at es some)) above))))
      (and_l (eq (at es 0) zero_f) (lengths_are_sound es) two))
      (eq→le t last same)
    where
      inside : last_of es < length es
      inside = omega arith

      lowest : T (climbs zero_f es) → T (le zero_f last)
      lowest up = subst (λ (x : Float). T (le zero_f x)) (last-at es some) (rises-le (length es) (zero_f ∷ es) (climbs-at zero_f es up) 0 (length es) some (le_refl (length es)))

  pub row-tests : (lengths_are_sound row && eq (at es 0) zero_f && le t last) ≡ table_is_sound es t
  row-tests = same_test (lengths_are_sound row && eq (at es 0) zero_f && le t last) (eq (at es 0) zero_f && lengths_are_sound es && eq t last) sound-of of-sound ∙ sym (sound-tests es t some)

-- the same of a row of which only the numbers are known
pub row-sound : (numbers : List Float) → 1 < length numbers
    → (lengths_are_sound numbers && eq (at numbers 0) zero_f && le (at numbers (last_of numbers)) (at numbers (last_of numbers - 1))) ≡ row_is_sound numbers
unfolding row_is_sound
row-sound numbers two =
    let n = last_of numbers in
    let es = take n numbers in
    let inside : n < length numbers = omega arith in
    let size : length es ≡ n = simp length-take (omega arith) in
    let some : 0 < length es = omega arith in
    let all : suc n ≡ length numbers = omega arith in
    let whole : es ++ at numbers n ∷ [] ≡ numbers = sym (take-suc numbers n nan inside) ∙ ap (λ (m : ℕ). take m numbers) all ∙ take-length numbers in
    let first : at es 0 ≡ at numbers 0 = get_or-take n numbers 0 nan (omega arith) in
    let before : at es (last_of es) ≡ at numbers (n - 1) = ap (λ (m : ℕ). at es (m - 1)) size ∙ get_or-take n numbers (n - 1) nan (omega arith) in
    cc (row-tests es (at numbers n) some)
