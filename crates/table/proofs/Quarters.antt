-- A bracket that closes in by quarters, from how many of the three lengths between them are below the target; and the count of the last few. For any running lengths that
-- are sound. Assumes nothing.
use mathlib.Core.Path.{◌≡◌, refl, sym, ap, ◌∙◌, subst}
use mathlib.Core.Logic.{inl, inr}
use Prim.Native.Nat.{ℕ, zero, suc, ◌+◌, ◌*◌, ◌-◌, ◌≤◌, ◌<◌}
use native.Mathlib.Nat.{le_refl}
use native.Mathlib.Omega.{arith}
use mathlib.Core.Bool.{Bool, true, false, cond, not}
use mathlib.Core.List.{List, [], ◌∷◌}
use lib.ListN.{length, take, drop, length-take, length-drop, get_or-eq_default}
use lib.Seq.{get_or-take, get_or-drop}
use lib.Dec.{T, ltb, ltb→lt, nltb→le}
use lib.Ieee.{Float, nan, lt, le}
use lib.Ieee.Fits.{and_l, and_r, and_i}
use lib.Ieee.Scale.{finite}
use Rattle.floats.specs.Floats.{zero_f}
use Rattle.floats.proofs.Tests.{decide, clashing, passed, failed}
use Rattle.floats.proofs.Order.{le_lt_trans, le-le-trans}
use Rattle.table.specs.Lookup.{at, first_not_below, quarters_below}
use Rattle.table.specs.Sound.{all_finite, climbs, lengths_are_sound}
use Rattle.table.proofs.Lengths.{entries-le, path-sound}
use Rattle.table.proofs.Search.{first-is, first-unique, first-upto, nan-not-below, Bracket}

-- ---- lengths before one that is below the target, and after one that is not
module _ (xs : List Float) (t : Float) (sound : T (lengths_are_sound xs)) (mid : ℕ) where
  pub low : mid < length xs → T (lt (at xs mid) t) → (k : ℕ) → k ≤ mid → T (lt (at xs k) t)
  low inside h k l = le_lt_trans (at xs k) (at xs mid) t (entries-le (path-sound xs sound) (suc k) (suc mid) (under l) inside) h
    where
      under : k ≤ mid → suc k ≤ suc mid
      under l = omega arith

  pub high : T (not (lt (at xs mid) t)) → (k : ℕ) → mid ≤ k → T (not (lt (at xs k) t))
  high h k l = elim (decide (lt (at xs k) t)) [
    | inl g ↦ absurd (elim (decide (ltb k (length xs))) [
      | inl inside ↦ clashing (lt (at xs mid) t) (le_lt_trans (at xs mid) (at xs k) t (entries-le (path-sound xs sound) (suc mid) (suc k) (under l) (ltb→lt k (length xs) inside)) g) h
      | inr past ↦ clashing (lt (at xs k) t) g (subst (λ (x : Float). T (not (lt x t))) (sym (get_or-eq_default xs nan (nltb→le k (length xs) past))) (nan-not-below t))
    ])
    | inr g ↦ g
  ]
    where
      under : mid ≤ k → suc mid ≤ suc k
      under l = omega arith

pub at_most_one : (b : Bool) (n : ℕ) → n ≡ cond b 1 0 → n ≤ 1
at_most_one true n e = omega arith
at_most_one false n e = omega arith

-- ---- a quarter on
abbrev pub Quarter : List Float → Float → ℕ → ℕ → ℕ → ℕ → Type 0
Quarter xs t base size part n = Bracket xs t (base + n * part) (base + n * part + (size - 3 * part))

module _ {xs : List Float} {t : Float} {base size : ℕ} (part : ℕ) (sound : T (lengths_are_sound xs)) (b : Bracket xs t base (base + size)) (some : 0 < part) (room : 4 * part ≤ size) where
  inside : (n : ℕ) → n ≤ 3 → base + n * part < length xs
  inside n h = let u : base + size ≤ length xs = b.upto in let m = native.Mathlib.Nat.mul-le-mul_right part h in omega arith

  first-quarter : T (not (lt (at xs (base + part)) t)) → Quarter xs t base size part 0
  first-quarter h =
      let u : base + size ≤ length xs = b.upto in
      record { order = omega arith; upto = omega arith; below = λ k l. b.below k (omega arith); above = high xs t sound (base + part) h _ (omega arith) }

  second-quarter : T (lt (at xs (base + part)) t) → T (not (lt (at xs (base + 2 * part)) t)) → Quarter xs t base size part 1
  second-quarter g h =
      let u : base + size ≤ length xs = b.upto in
      record { order = omega arith; upto = omega arith; below = λ k l. low xs t sound (base + part) (omega arith) g k (omega arith); above = high xs t sound (base + 2 * part) h _ (omega arith) }

  third-quarter : T (lt (at xs (base + 2 * part)) t) → T (not (lt (at xs (base + 3 * part)) t)) → Quarter xs t base size part 2
  third-quarter g h =
      let u : base + size ≤ length xs = b.upto in
      record { order = omega arith; upto = omega arith; below = λ k l. low xs t sound (base + 2 * part) (omega arith) g k (omega arith); above = high xs t sound (base + 3 * part) h _ (omega arith) }

  last-quarter : T (lt (at xs (base + 3 * part)) t) → Quarter xs t base size part 3
  last-quarter g =
      let u : base + size ≤ length xs = b.upto in
      let e : base + size ≡ base + 3 * part + (size - 3 * part) = omega arith in
      record { order = omega arith; upto = omega arith; below = λ k l. low xs t sound (base + 3 * part) (omega arith) g k (omega arith); above = subst (λ (k : ℕ). T (not (lt (at xs k) t))) e b.above }

  -- the length at a later quarter is below, and one at an earlier is not
  falls : {X : Type 0} (i j : ℕ) → i ≤ j → j < length xs → T (lt (at xs j) t) → T (not (lt (at xs i) t)) → X
  falls i j l h g n = absurd (clashing (lt (at xs i) t) (low xs t sound j h g i l) n)

  by_tests : (p q r : Bool) → lt (at xs (base + part)) t ≡ p → lt (at xs (base + 2 * part)) t ≡ q → lt (at xs (base + 3 * part)) t ≡ r → Quarter xs t base size part (cond p 1 0 + cond q 1 0 + cond r 1 0)
  by_tests false false false e f g = first-quarter (failed e)
  by_tests true false false e f g = second-quarter (passed e) (failed f)
  by_tests true true false e f g = third-quarter (passed f) (failed g)
  by_tests true true true e f g = last-quarter (passed g)
  by_tests false true r e f g = let u : base + size ≤ length xs = b.upto in falls (base + part) (base + 2 * part) (omega arith) (omega arith) (passed f) (failed e)
  by_tests p false true e f g = let u : base + size ≤ length xs = b.upto in falls (base + 2 * part) (base + 3 * part) (omega arith) (omega arith) (passed g) (failed f)

  -- how many of the three are below
  pub quartered : (n : ℕ) → n ≡ quarters_below xs t base part → Quarter xs t base size part n
  unfolding quarters_below
  quartered n e = rw e (by_tests (lt (at xs (base + part)) t) (lt (at xs (base + 2 * part)) t) (lt (at xs (base + 3 * part)) t) refl refl refl)

-- ---- a part of sound lengths is sound
finite-take : (n : ℕ) (xs : List Float) → T (all_finite xs) → T (all_finite (take n xs))
unfolding all_finite
finite-take zero xs h = tt
finite-take (suc n) [] h = tt
finite-take (suc n) (x ∷ xs) h = and_i (finite x) (all_finite (take n xs)) (and_l (finite x) (all_finite xs) h) (finite-take n xs (and_r (finite x) (all_finite xs) h))

climbs-take : (n : ℕ) (from : Float) (xs : List Float) → T (climbs from xs) → T (climbs from (take n xs))
unfolding climbs
climbs-take zero from xs h = tt
climbs-take (suc n) from [] h = tt
climbs-take (suc n) from (x ∷ xs) h = and_i (le from x) (climbs x (take n xs)) (and_l (le from x) (climbs x xs) h) (climbs-take n x xs (and_r (le from x) (climbs x xs) h))

finite-drop : (n : ℕ) (xs : List Float) → T (all_finite xs) → T (all_finite (drop n xs))
unfolding all_finite
finite-drop zero xs h = h
finite-drop (suc n) [] h = tt
finite-drop (suc n) (x ∷ xs) h = finite-drop n xs (and_r (finite x) (all_finite xs) h)

-- from a lower start
climbs-under : (from to : Float) (xs : List Float) → T (le from to) → T (climbs to xs) → T (climbs from xs)
unfolding climbs
climbs-under from to [] l h = tt
climbs-under from to (x ∷ xs) l h = and_i (le from x) (climbs x xs) (le-le-trans from to x l (and_l (le to x) (climbs x xs) h)) (and_r (le to x) (climbs x xs) h)

climbs-drop : (n : ℕ) (from : Float) (xs : List Float) → T (climbs from xs) → T (climbs from (drop n xs))
unfolding climbs
climbs-drop zero from xs h = h
climbs-drop (suc n) from [] h = tt
climbs-drop (suc n) from (x ∷ xs) h = climbs-drop n from xs (climbs-under from x xs (and_l (le from x) (climbs x xs) h) (and_r (le from x) (climbs x xs) h))

pub part_sound : (n m : ℕ) (xs : List Float) → T (lengths_are_sound xs) → T (lengths_are_sound (take m (drop n xs)))
unfolding lengths_are_sound
part_sound n m xs h =
    and_i (all_finite (take m (drop n xs))) (climbs zero_f (take m (drop n xs)))
    (finite-take m (drop n xs) (finite-drop n xs (and_l (all_finite xs) (climbs zero_f xs) h)))
    (climbs-take m zero_f (drop n xs) (climbs-drop n zero_f xs (and_r (all_finite xs) (climbs zero_f xs) h)))

-- ---- the first in the bracket is the first of all
pub bracket-counted : {xs : List Float} {t : Float} (base end size : ℕ) → Bracket xs t base end → end - base ≡ size → base + first_not_below t (take size (drop base xs)) ≡ first_not_below t xs
bracket-counted {xs} {t} base end size b e = first-unique (record { below = before; found = found }) (first-is xs t)
  where
    few : List Float
    few = take size (drop base xs)

    r : ℕ
    r = first_not_below t few

    sized : length few ≡ size
    sized = let u = b.upto in let o = b.order in simp (length-take, length-drop) (omega arith)

    same : (k : ℕ) → k < size → at few k ≡ at xs (base + k)
    same k l = get_or-take size (drop base xs) k nan l ∙ get_or-drop base xs k nan

    up_to : r ≤ size
    up_to = first-upto few t size (subst (λ (x : Float). T (not (lt x t))) (sym (get_or-eq_default few nan (let z : length few ≤ size = omega (arith, sized) in z))) (nan-not-below t))

    before : (k : ℕ) → k < base + r → T (lt (at xs k) t)
    before k l = elim (decide (ltb k base)) [
      | inl g ↦ b.below k (ltb→lt k base g)
      | inr g ↦ subst (λ (x : Float). T (lt x t)) (same (k - base) (within (nltb→le k base g)) ∙ ap (at xs) (back (nltb→le k base g))) ((first-is few t).below (k - base) (under (nltb→le k base g)))
    ]
      where
        under : base ≤ k → k - base < r
        under g = omega arith

        within : base ≤ k → k - base < size
        within g = omega (arith, up_to)

        back : base ≤ k → base + (k - base) ≡ k
        back g = omega arith

    found : T (not (lt (at xs (base + r)) t))
    found = elim (decide (ltb r size)) [
      | inl l ↦ subst (λ (x : Float). T (not (lt x t))) (same r (ltb→lt r size l)) (first-is few t).found
      | inr g ↦ subst (λ (k : ℕ). T (not (lt (at xs k) t))) (last (nltb→le r size g)) b.above
    ]
      where
        last : size ≤ r → end ≡ base + r
        last g = let o = b.order in omega (arith, up_to)
