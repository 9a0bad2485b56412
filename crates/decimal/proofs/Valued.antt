-- The value of a number from what is gathered of it. Assumes nothing.
use Prim.Native.Nat.{ℕ, ◌+◌, ◌-◌, ◌*◌, ◌%◌, ◌^◌, ◌≤◌, ◌<◌}
use mathlib.Core.Path.{◌≡◌, refl, ap, sym, ◌∙◌, subst}
use mathlib.Core.Logic.{◌⊎◌, inl, inr, ⊎_elim}
use mathlib.Core.List.{List}
use mathlib.Core.Bool.{Bool, true, false, not, cond, ◌&&◌}
use native.Mathlib.Nat.{mul-one, add-zero}
use native.Mathlib.Omega.{arith}
use lib.Dec.{T}
use lib.ListN.{length}
use lib.Ieee.{Float, binary32, round, nan_bits}
use Rattle.floats.specs.Patterns.{sign_place, infinity_bits}
use Rattle.decimal_rounding.proofs.Wide.{no-nan-plain, no-nan-single}
use Rattle.scan.specs.declared.numbers.Places.{Places}
use Rattle.decimal_digits.specs.Digits.{val}
use Rattle.decimal_digits.specs.Exponent.{most, capped}
use Rattle.decimal_digits.proofs.Capping.{capped_small, capped-either}
use Rattle.decimal.specs.Decimal.{digits_of, places_of, power_of, falls, rise_of, fall_of, numerator, denominator, negative, value_of}
use Rattle.decimal.specs.Bits.{Gathered, Held}

-- ---- tests

pub all-four : (a b c d : Bool) → (((a && b) && c) && d) ≡ true → (a ≡ true) × (b ≡ true) × (c ≡ true) × (d ≡ true)
all-four true true true true e = (refl, refl, refl, refl)
all-four true true true false e = let z : ◌≡◌ {A = ℕ} 0 1 = cc in absurd (omega arith)
all-four true true false d e = let z : ◌≡◌ {A = ℕ} 0 1 = cc in absurd (omega arith)
all-four true false c d e = let z : ◌≡◌ {A = ℕ} 0 1 = cc in absurd (omega arith)
all-four false b c d e = let z : ◌≡◌ {A = ℕ} 0 1 = cc in absurd (omega arith)

-- ---- patterns that are no NaN's

pub plain-signed : (s : Bool) (n : ℕ) → n ≤ infinity_bits → T (not (nan_bits binary32 (cond s sign_place 0 + n)))
plain-signed true n h = no-nan-plain binary32 (sign_place + n) (let l : (sign_place + n) % sign_place ≤ infinity_bits = omega arith in l)
plain-signed false n h = no-nan-single (0 + n) (omega arith)

pub plain-negative : (n : ℕ) → n ≤ infinity_bits → T (not (nan_bits binary32 (n + sign_place)))
plain-negative n h = no-nan-plain binary32 (n + sign_place) (let l : (n + sign_place) % sign_place ≤ infinity_bits = omega arith in l)

pub sign_le : (s : Bool) → cond s sign_place 0 ≤ sign_place
sign_le true = omega arith
sign_le false = omega arith

-- ---- capped exponents

capped_le : (n : ℕ) → capped n ≤ most
capped_le n = ⊎_elim (λ x. omega (arith, x.0, x.1)) (λ x. omega (arith, x.0)) (capped-either n)

capped-none : (n : ℕ) → capped n ≡ 0 → n ≡ 0
capped-none n e = ⊎_elim (λ x. sym x.0 ∙ e) (λ x. absurd (omega (arith, x.0))) (capped-either n)

pub one_way : (text : List ℕ) (p : Places) → (rise_of text p ≡ 0) ⊎ (fall_of text p ≡ 0)
unfolding rise_of fall_of
one_way text p = go (falls text p)
  where
    go : (b : Bool) → (cond b 0 (power_of text p) ≡ 0) ⊎ (cond b (power_of text p) 0 ≡ 0)
    go true = inl refl
    go false = inr refl

module _ (text : List ℕ) (p : Places) (w dropped rise fall : ℕ) (h : Held text p w dropped rise fall) where
  -- ---- what the bits are worked out from

  pub gathered : length text < 2 ^ 63 → Gathered (digits_of text p) (p.point - p.whole) (places_of p) w dropped rise fall
  gathered l =
      record {
        leads = h.leads;
        in_all = h.count;
        few = omega (arith, h.whole_le, h.between, h.fraction-le, h.inside);
        few-dropped = omega (arith, h.few, h.inside);
        rise-le = subst (λ (n : ℕ). n ≤ most) (sym h.rises) (capped_le _);
        fall-le = subst (λ (n : ℕ). n ≤ most) (sym h.drops) (capped_le _);
        one_way = ⊎_elim (λ e. inl (h.rises ∙ ap capped e ∙ capped_small 0 (omega arith))) (λ e. inr (h.drops ∙ ap capped e ∙ capped_small 0 (omega arith))) (one_way text p);
      }

  -- ---- a few digits and no exponent

  all_held : w < 10 ^ 18 → val (digits_of text p) ≡ w
  all_held l =
      let z : dropped ≡ 0 = h.leads.early l in
      let q : 10 ^ dropped ≡ 1 = ap (λ (n : ℕ). 10 ^ n) z in
      let r : h.leads.rest ≡ 0 = one h.leads.rest (subst (λ (n : ℕ). h.leads.rest < n) q h.leads.small) in
      h.leads.is ∙ ap (λ (n : ℕ). w * n + h.leads.rest) q ∙ ap (λ (n : ℕ). w * 1 + n) r ∙ add-zero (w * 1) ∙ mul-one w
    where
      one : (r : ℕ) → r < 1 → r ≡ 0
      one r l = omega arith

  pub short-is : w ≤ 2 ^ 53 → rise ≡ 0 → fall ≡ 0 → (s : Bool) → round binary32 s w (10 ^ places_of p) ≡ round binary32 s (numerator text p) (denominator text p)
  short-is l e f s =
      let up = capped-none (rise_of text p) (sym h.rises ∙ e) in
      let down = capped-none (fall_of text p) (sym h.drops ∙ f) in
      ap (λ (n : ℕ). round binary32 s n (10 ^ places_of p)) (sym (ap (λ (n : ℕ). val (digits_of text p) * 10 ^ n) up ∙ mul-one (val (digits_of text p)) ∙ all_held (small w l)))
      ∙ ap (λ (n : ℕ). round binary32 s (numerator text p) (10 ^ n)) (sym (ap (λ (n : ℕ). places_of p + n) down ∙ add-zero (places_of p)))
    where
      small : (w : ℕ) → w ≤ 2 ^ 53 → w < 10 ^ 18
      small w l = omega arith

  -- ---- the sign

  pub value-signed : (x : Float) (s : Bool) → s ≡ negative text p → x ≡ round binary32 s (numerator text p) (denominator text p) → x ≡ value_of text p
  unfolding value_of
  value-signed x s e r = r ∙ ap (λ (b : Bool). round binary32 b (numerator text p) (denominator text p)) e
