-- What the product of leading digits, moved up to 64 binary digits, and a power's leading 60 says of the number: it is cut short by less than 5.
-- Assumes nothing.
use Prim.Native.Nat.{ℕ, suc, ◌+◌, ◌-◌, ◌*◌, ◌^◌, ◌≤◌, ◌<◌, ◌%◌}
use mathlib.Core.Path.{◌≡◌, refl, ap, sym, ◌∙◌, subst}
use mathlib.Core.Logic.{◌⊎◌, inl, inr, ⊎_elim}
use native.Mathlib.Nat.{add-mul, mul-suc, mul_assoc, mul_comm, mul_left_comm, zero-mul, one-mul}
use native.Mathlib.Nat.{le_trans, le_of_eq, lt_of_le_of_lt, lt_of_lt_of_le, lt_of_not-le, not-le_of_lt, mul-pos, mul-le-mul, mul-le-mul_right, mul-lt-mul_of_pos_left, le_of_mul-le-mul_right, lt_of_mul-lt-mul_right, mod-eq_of_lt}
use native.Mathlib.Omega.{arith}
use lib.Dec.{lit<}
use lib.Pow.{pow_pos, pow_mono, pow-add, shl_lt}
use lib.Count.{count_leading_zeros, leading_top}
use Rattle.decimal_tens.specs.Tens.{height}
use Rattle.decimal_tens.proofs.Entries.{Leads}
use Rattle.decimal_product.specs.Near.{High, Leading, Bracket}

-- ---- moving up

-- w, moved up until its leading binary digit is the 64th
pub record Raised (w moved : ℕ) : Type 0 where
  pub few : moved < 64
  pub back : w * 2 ^ moved % 2 ^ 64 ≡ w * 2 ^ moved
  pub full : 2 ^ 63 ≤ w * 2 ^ moved
  pub fits : w * 2 ^ moved < 2 ^ 64

pub raised : (w : ℕ) → 0 < w → w < 2 ^ 64 → Raised w (count_leading_zeros 64 w)
raised w p f =
    let z = leading_top 64 w p f in
    let s = count_leading_zeros 64 w in
    let k : suc z.0 + s ≡ 64 = omega (arith, z.1) in
    let j : z.0 + s ≡ 63 = omega (arith, z.1) in
    let small : w * 2 ^ s < 2 ^ 64 = subst (λ (i : ℕ). w * 2 ^ s < 2 ^ i) k (shl_lt (suc z.0) s z.3) in
    record {
      few = omega (arith, z.1);
      back = mod-eq_of_lt small;
      full = le_trans (le_of_eq (ap (λ (i : ℕ). 2 ^ i) (sym j) ∙ pow-add 2 z.0 s)) (mul-le-mul_right (2 ^ s) z.2);
      fits = small;
    }

-- 60 digits or more are moved up by at most 4
few-moved : (w moved : ℕ) → 2 ^ 59 ≤ w → w * 2 ^ moved < 2 ^ 64 → 2 ^ moved ≤ 16
few-moved w moved a b =
    let m : moved < 5 = lt_of_not-le (λ (h : 5 ≤ moved). not-le_of_lt b (mul-le-mul a (pow_mono h))) in
    let l : moved ≤ 4 = omega arith in
    pow_mono l

-- ---- the product's size

pub under-60 : (x p r : ℕ) → x < 2 ^ 64 → p < 2 ^ 60 → High x p r → r < 2 ^ 60
under-60 x p r a b h = lt_of_mul-lt-mul_right (2 ^ 64) (lt_of_le_of_lt h.at_most (subst (λ (z : ℕ). x * p < z) (mul_comm (2 ^ 64) (2 ^ 60)) (both x p a b)))
  where
    both : (x p : ℕ) → x < 2 ^ 64 → p < 2 ^ 60 → x * p < 2 ^ 64 * 2 ^ 60
    both x p a b = lt_of_le_of_lt (mul-le-mul_right p (weak x a)) (mul-lt-mul_of_pos_left b (lit< tt))
      where
        weak : (x : ℕ) → x < 2 ^ 64 → x ≤ 2 ^ 64
        weak x a = omega arith

-- ---- the bracket

-- all powers by names: a is 10 ^ place, e is 10 ^ 64, h is 2 ^ height, s is 2 ^ moved, c is 2 ^ 64 and t is 2 ^ 208
module _ (num den w p r a e h s c t : ℕ) where
  lower-left : r * (h * den) * (c * e) ≡ r * c * (h * e * den)
  lower-left = simp (mul_assoc, mul_left_comm, mul_comm)

  lower-middle : w * s * p * (h * e * den) ≡ p * (h * e) * (w * s * den)
  lower-middle = simp (mul_assoc, mul_left_comm, mul_comm)

  lower-right : a * (t * c) * (w * s * den) ≡ w * (a * den) * (s * t * c)
  lower-right = simp (mul_assoc, mul_left_comm, mul_comm)

  lower-end : num * e * (s * t * c) ≡ num * t * s * (c * e)
  lower-end = simp (mul_assoc, mul_left_comm, mul_comm)

  pub lower : 0 < c * e → r * c ≤ w * s * p → p * (h * e) ≤ a * (t * c) → w * (a * den) ≤ num * e → r * (h * den) ≤ num * t * s
  lower C hi lead digits =
      le_of_mul-le-mul_right
      (le_trans (le_of_eq lower-left)
      (le_trans (mul-le-mul_right (h * e * den) hi)
      (le_trans (le_of_eq lower-middle)
      (le_trans (mul-le-mul_right (w * s * den) lead)
      (le_trans (le_of_eq lower-right)
      (le_trans (mul-le-mul_right (s * t * c) digits) (le_of_eq lower-end))))))) C

  module _ (v q : ℕ) where
    upper-left : num * t * s * (c * e) ≡ num * e * (s * t * c)
    upper-left = simp (mul_assoc, mul_left_comm, mul_comm)

    upper-middle : v * (a * den) * (s * t * c) ≡ v * s * den * (a * (t * c))
    upper-middle = simp (mul_assoc, mul_left_comm, mul_comm)

    upper-right : v * s * den * (q * (h * e)) ≡ v * s * q * (h * e * den)
    upper-right = simp (mul_assoc, mul_left_comm, mul_comm)

    upper-end : r * c * (h * e * den) ≡ r * (h * den) * (c * e)
    upper-end = simp (mul_assoc, mul_left_comm, mul_comm)

    pub upper : 0 < v * s * den → num * e ≤ v * (a * den) → a * (t * c) < q * (h * e) → v * s * q ≤ r * c → num * t * s < r * (h * den)
    upper U digits lead hi =
        lt_of_mul-lt-mul_right (c * e)
        (lt_of_le_of_lt (le_of_eq upper-left)
        (lt_of_le_of_lt (mul-le-mul_right (s * t * c) digits)
        (lt_of_le_of_lt (le_of_eq upper-middle)
        (lt_of_lt_of_le (mul-lt-mul_of_pos_left lead U)
        (le_trans (le_of_eq upper-right)
        (le_trans (mul-le-mul_right (h * e * den) hi) (le_of_eq upper-end)))))))

-- a digit more at most, of 60 digits or more, and a power cut by less than 1, are two more of the product
room : (w more s p r c : ℕ) → w * s * p < (r + 3) * c → w * s < c → more * s * suc p ≤ c → (w + more) * s * suc p ≤ (r + 5) * c
room w more s p r c a b d =
    let e : (w + more) * s * suc p ≡ w * s * p + w * s + more * s * suc p = ap (λ (z : ℕ). z * suc p) (add-mul w more s) ∙ add-mul (w * s) (more * s) (suc p) ∙ ap (λ (z : ℕ). z + more * s * suc p) (mul-suc (w * s) p) in
    omega (arith, e, add-mul r 3 c, add-mul r 5 c)

more_room : (w moved p more : ℕ) → w * 2 ^ moved < 2 ^ 64 → p < 2 ^ 60 → (more ≡ 0) ⊎ ((more ≡ 1) × (2 ^ 59 ≤ w)) → more * 2 ^ moved * suc p ≤ 2 ^ 64
more_room w moved p more f b = ⊎_elim none one
  where
    none : more ≡ 0 → more * 2 ^ moved * suc p ≤ 2 ^ 64
    none e = subst (λ (z : ℕ). z * 2 ^ moved * suc p ≤ 2 ^ 64) (sym e) (zeros (2 ^ moved) (suc p))
      where
        zeros : (i j : ℕ) → 0 * i * j ≤ 2 ^ 64
        zeros i j = omega (arith, ap (λ (z : ℕ). z * j) (zero-mul i), zero-mul j)

    one : (more ≡ 1) × (2 ^ 59 ≤ w) → more * 2 ^ moved * suc p ≤ 2 ^ 64
    one h = subst (λ (z : ℕ). z * 2 ^ moved * suc p ≤ 2 ^ 64) (sym h.0) (le_trans (le_of_eq (ap (λ (z : ℕ). z * suc p) (one-mul (2 ^ moved)))) (mul-le-mul (few-moved w moved h.1 f) b))

pub bracket : (w place moved p r num den : ℕ) → 0 < w → 0 < den → Raised w moved → Leads place p → High (w * 2 ^ moved) p r → Leading w place num den
    → Bracket r (2 ^ height place * den) (2 ^ (moved + 59)) num
bracket w place moved p r num den W D R P H L =
    record {
      at_least = le_trans (lower num den w p r (10 ^ place) (10 ^ 64) (2 ^ height place) (2 ^ moved) (2 ^ 64) (2 ^ 208) (lit< tt) H.at_most P.at_least L.at_least) (le_of_eq deep);
      below = lt_of_le_of_lt (le_of_eq (sym deep)) (upper num den w p (r + 5) (10 ^ place) (10 ^ 64) (2 ^ height place) (2 ^ moved) (2 ^ 64) (2 ^ 208) (w + L.more) (suc p)
          (mul-pos (mul-pos (some w L.more W) (pow_pos moved)) D) L.at_most P.below_next (room w L.more (2 ^ moved) p r (2 ^ 64) H.near R.fits (more_room w moved p L.more R.fits P.small L.cut_off)));
    }
  where
    some : (w more : ℕ) → 0 < w → 0 < w + more
    some w more h = omega arith

    deep : num * 2 ^ 208 * 2 ^ moved ≡ num * 2 ^ 149 * 2 ^ (moved + 59)
    deep =
        ap (λ (z : ℕ). z * 2 ^ moved) (sym (mul_assoc num (2 ^ 149) (2 ^ 59)))
        ∙ mul_assoc (num * 2 ^ 149) (2 ^ 59) (2 ^ moved)
        ∙ ap (λ (z : ℕ). num * 2 ^ 149 * z) (mul_comm (2 ^ 59) (2 ^ moved) ∙ sym (pow-add 2 moved 59))
