-- The bits of the steps, without their sign, stand for a number that is within 2 ^ -22 of the sum, at an angle R / 2 ^ 56 of at most half a turn. Assumes nothing.
use mathlib.Core.Path.{◌≡◌, refl, sym, ap, ◌∙◌, subst}
use Prim.Native.Nat.{ℕ, ◌+◌, ◌*◌, ◌/◌, ◌^◌, ◌≤◌, ◌<◌}
use native.Mathlib.Nat.{mul_assoc, mul_comm, mul_right_comm, mul-add, add-mul}
use native.Mathlib.Nat.{add-le-add, le_refl, le_trans, le_of_eq, le_of_lt, lt_of_lt_of_le, lt_of_le_of_lt, lt_of_not-le, mul-le-mul, mul-le-mul_right, mul-le-mul_left, mul-lt-mul_of_pos_right, div-mul-le_self, lt-div-mul-add}
use native.Mathlib.Omega.{arith}
use native.Mathlib.Decide.{dec_le}
use mathlib.Core.Bool.{Bool, false, not}
use lib.Dec.{leb, lit≤, lit<}
use lib.Pow.{pow_pos, pow_mono, pow-add, shr_lt}
use lib.Count.{count_leading_zeros, leading_length}
use lib.Ieee.{binary32, of_bits}
use borrow.Author.Tests.{le-leb, lt-leb}
use Rattle.trig_rule.specs.Sums.{whole, sine_added, sine_taken, sine_side, cosine_added, cosine_taken, cosine_side}
use Rattle.trig_rule.specs.Rule.{Is, Within}
use Rattle.trig_rule.specs.Steps.{half, sine_plus, sine_minus, cosine_plus, cosine_minus, gap_of, drop_of, pack_of}
use Rattle.trig_rule.proofs.Near.{SineNear, sine-near, CosineNear, cosine-near}
use Rattle.trig_rule.proofs.Gaps.{sine-gap, cosine-gap}
use Rattle.trig_rule.proofs.Packed.{Packed, pack-near, pow_lt_cancel}
use Rattle.trig_rule.proofs.Difference.{apart_above, apart_below, within}

-- ---- either side may be the larger one
gap-plus : (a t : ℕ) → t ≤ a → gap_of a t + t ≡ a
gap-plus a t h = simp (le-leb t a h) (omega arith)

gap-minus : (a t : ℕ) → a < t → gap_of a t + a ≡ t
gap-minus a t h = simp (lt-leb t a h) (omega arith)

-- ---- the product of R, cut to 31 digits, and the gap
drop_le : (R : ℕ) → R ≤ half → drop_of R ≤ 27
drop_le R h =
    let l = leading_length 64 R (omega arith) in
    let e : count_leading_zeros 64 R + l.0 ≡ 64 = l.1 in
    let u : 2 ^ l.0 < 2 ^ 59 = lt_of_le_of_lt l.3 (omega arith) in
    let v : l.0 < 59 = pow_lt_cancel u in
    omega arith

kept-lt : (R : ℕ) → R ≤ half → R / 2 ^ drop_of R < 2 ^ 31
kept-lt R h =
    let l = leading_length 64 R (omega arith) in
    let e : count_leading_zeros 64 R + l.0 ≡ 64 = l.1 in
    let m : l.0 ≤ 31 + drop_of R = omega arith in
    shr_lt 31 (drop_of R) (lt_of_lt_of_le l.2 (pow_mono m))

cut-above : (y u v c d : ℕ) → y ≤ u + c → u ≤ v → y ≤ v + (c + d)
cut-above y u v c d h l = omega arith

cut_below : (y u v t c d : ℕ) → u ≤ y + c → v ≤ u + t → t ≤ d → v ≤ y + (c + d)
cut_below y u v t c d h l m = omega arith

module _ (R g s y : ℕ) (hs : s ≤ 27) (hg : g ≤ 2 ^ 30) where
  abbrev k : ℕ
  k = R / 2 ^ s

  moved : k * g * 2 ^ (s + 63) ≡ 2 ^ 63 * (k * 2 ^ s * g)
  moved =
      ap (λ (x : ℕ). k * g * x) (pow-add 2 s 63) ∙ sym (mul_assoc (k * g) (2 ^ s) (2 ^ 63)) ∙ ap (λ (x : ℕ). x * 2 ^ 63) (mul_right_comm k g (2 ^ s)) ∙ mul_comm (k * 2 ^ s * g) (2 ^ 63)

  lost : 2 ^ 63 * (2 ^ s * g) ≤ 2 ^ 120
  lost = mul-le-mul_left (2 ^ 63) (mul-le-mul (pow_mono hs) hg)

  pub product-above : y ≤ k * g * 2 ^ (s + 63) + 2 ^ 126 → y ≤ 2 ^ 63 * (R * g) + (2 ^ 126 + 2 ^ 120)
  product-above h = cut-above y (k * g * 2 ^ (s + 63)) (2 ^ 63 * (R * g)) (2 ^ 126) (2 ^ 120) h (le_trans (le_of_eq moved) (mul-le-mul_left (2 ^ 63) (mul-le-mul_right g (div-mul-le_self R (2 ^ s)))))

  pub product-below : k * g * 2 ^ (s + 63) ≤ y + 2 ^ 126 → 2 ^ 63 * (R * g) ≤ y + (2 ^ 126 + 2 ^ 120)
  product-below h =
      let b : R ≤ k * 2 ^ s + 2 ^ s = le_of_lt (lt-div-mul-add {a = R} {b = 2 ^ s} (pow_pos s)) in
      let split = mul-le-mul_left (2 ^ 63) (le_trans (mul-le-mul_right g b) (le_of_eq (add-mul (k * 2 ^ s) (2 ^ s) g))) in
      let shifted = le_trans (le_of_eq (mul-add (2 ^ 63) (k * 2 ^ s * g) (2 ^ s * g))) (add-le-add (le_of_eq (sym moved)) (le_refl (2 ^ 63 * (2 ^ s * g)))) in
      cut_below y (k * g * 2 ^ (s + 63)) (2 ^ 63 * (R * g)) (2 ^ 63 * (2 ^ s * g)) (2 ^ 126) (2 ^ 120) h (le_trans split shifted) lost

-- ---- the sine
-- the sides by the steps' own comparison: they change places where the steps take away more than they add
pub record SineAt (R : ℕ) : Type 0 where
  pub units : ℕ
  pub value : Is (of_bits binary32 (pack_of (R / 2 ^ drop_of R * gap_of (sine_plus R) (sine_minus R)) (drop_of R))) false units
  pub bound : Within units (sine_side (leb (sine_minus R) (sine_plus R)) R (2 ^ 56)) (sine_side (not (leb (sine_minus R) (sine_plus R))) R (2 ^ 56)) (whole 31 (2 ^ 56))

-- g is a - t, each near its side over the whole W
module _ (R g a t A T W y : ℕ) (hR : R ≤ 2 ^ 58) (sum : g + t ≡ a) (al : R * a * W ≤ 2 ^ 86 * A) (ah : 2 ^ 86 * A ≤ R * (a + 15) * W) (tl : R * t * W ≤ 2 ^ 86 * T) (th : 2 ^ 86 * T ≤ R * (t + 15) * W)
    (ya : y ≤ 2 ^ 63 * (R * g) + (2 ^ 126 + 2 ^ 120)) (yb : 2 ^ 63 * (R * g) ≤ y + (2 ^ 126 + 2 ^ 120)) where
  spread : (x e : ℕ) → R * (x + e) * W ≡ R * x * W + R * e * W
  spread x e = ap (λ (n : ℕ). n * W) (mul-add R x e) ∙ add-mul (R * x) (R * e) W

  sums : R * g * W + R * t * W ≡ R * a * W
  sums = sym (spread g t) ∙ ap (λ (n : ℕ). R * n * W) sum

  sine-within : Within y A T W
  sine-within =
      within y (2 ^ 63) (2 ^ 86) (R * g) (R * 15) (2 ^ 126 + 2 ^ 120) A T W refl
      (apart_above (R * g * W) (R * a * W) (R * t * W) (R * 15 * W) (2 ^ 86 * A) (2 ^ 86 * T) sums al (le_trans th (le_of_eq (spread t 15))))
      (apart_below (R * g * W) (R * a * W) (R * t * W) (R * 15 * W) (2 ^ 86 * A) (2 ^ 86 * T) sums (le_trans ah (le_of_eq (spread a 15))) tl) ya yb
      (le_trans (add-le-add (mul-le-mul_left (2 ^ 63) (mul-le-mul_right 15 hR)) (le_refl (2 ^ 126 + 2 ^ 120))) (lit≤ tt))

pub sine-at : (R : ℕ) → R ≤ half → SineAt R
sine-at R h = record { units = p.units; value = p.value; bound = go (dec_le t a) }
  where
    a : ℕ
    a = sine_plus R

    t : ℕ
    t = sine_minus R

    g : ℕ
    g = gap_of (sine_plus R) (sine_minus R)

    s : ℕ
    s = drop_of R

    g-le : g ≤ 2 ^ 30
    g-le = sine-gap R h

    fits : R / 2 ^ s * g < 2 ^ 64
    fits = lt_of_le_of_lt (mul-le-mul (le_of_lt (kept-lt R h)) g-le) (omega arith)

    under : R / 2 ^ s * g * 2 ^ s < 2 ^ 88
    under = lt_of_le_of_lt (le_of_eq (mul_right_comm (R / 2 ^ s) g (2 ^ s))) (lt_of_le_of_lt (mul-le-mul (le_trans (div-mul-le_self R (2 ^ s)) h) g-le) (omega arith))

    p : Packed (R / 2 ^ s * g) s
    p = pack-near (R / 2 ^ s * g) s fits (le_trans (drop_le R h) (omega arith)) under

    y : ℕ
    y = p.units

    ya : y ≤ 2 ^ 63 * (R * g) + (2 ^ 126 + 2 ^ 120)
    ya = product-above R g s y (drop_le R h) g-le p.above

    yb : 2 ^ 63 * (R * g) ≤ y + (2 ^ 126 + 2 ^ 120)
    yb = product-below R g s y (drop_le R h) g-le p.below

    n : SineNear R
    n = sine-near R h

    small : R ≤ 2 ^ 58
    small = omega arith

    W : ℕ
    W = whole 31 (2 ^ 56)

    family : Bool → Type 0
    family b = Within y (sine_side b R (2 ^ 56)) (sine_side (not b) R (2 ^ 56)) W

    go : Dec (t ≤ a) → family (leb t a)
    go (yes k) = subst family (sym (le-leb t a k)) (sine-within R g a t (sine_added R (2 ^ 56)) (sine_taken R (2 ^ 56)) W y small (gap-plus a t k) n.plus-low n.plus-high n.minus-low n.minus-high ya yb)
    go (no f) =
        let k : a < t = lt_of_not-le f in
        subst family (sym (lt-leb t a k)) (sine-within R g t a (sine_taken R (2 ^ 56)) (sine_added R (2 ^ 56)) W y small (gap-minus a t k) n.minus-low n.minus-high n.plus-low n.plus-high ya yb)

-- ---- the cosine
pub record CosineAt (R : ℕ) : Type 0 where
  pub units : ℕ
  pub value : Is (of_bits binary32 (pack_of (gap_of (cosine_plus R) (cosine_minus R)) 58)) false units
  pub bound : Within units (cosine_side (leb (cosine_minus R) (cosine_plus R)) R (2 ^ 56)) (cosine_side (not (leb (cosine_minus R) (cosine_plus R))) R (2 ^ 56)) (whole 30 (2 ^ 56))

module _ (g a t A T W y : ℕ) (sum : g + t ≡ a) (al : a * W ≤ 2 ^ 28 * A) (ah : 2 ^ 28 * A ≤ (a + 8) * W) (tl : t * W ≤ 2 ^ 28 * T) (th : 2 ^ 28 * T ≤ (t + 8) * W)
    (ya : y ≤ 2 ^ 121 * g + 2 ^ 126) (yb : 2 ^ 121 * g ≤ y + 2 ^ 126) where
  cosine-sums : g * W + t * W ≡ a * W
  cosine-sums = sym (add-mul g t W) ∙ ap (λ (n : ℕ). n * W) sum

  cosine-within : Within y A T W
  cosine-within =
      within y (2 ^ 121) (2 ^ 28) g 8 (2 ^ 126) A T W refl
      (apart_above (g * W) (a * W) (t * W) (8 * W) (2 ^ 28 * A) (2 ^ 28 * T) cosine-sums al (le_trans th (le_of_eq (add-mul t 8 W))))
      (apart_below (g * W) (a * W) (t * W) (8 * W) (2 ^ 28 * A) (2 ^ 28 * T) cosine-sums (le_trans ah (le_of_eq (add-mul a 8 W))) tl) ya yb (lit≤ tt)

pub cosine-at : (R : ℕ) → R ≤ half → CosineAt R
cosine-at R h = record { units = p.units; value = p.value; bound = go (dec_le t a) }
  where
    a : ℕ
    a = cosine_plus R

    t : ℕ
    t = cosine_minus R

    g : ℕ
    g = gap_of (cosine_plus R) (cosine_minus R)

    g-lt : g < 2 ^ 30
    g-lt = cosine-gap R h

    p : Packed g 58
    p = pack-near g 58 (lt_of_lt_of_le g-lt (omega arith)) (omega arith) (mul-lt-mul_of_pos_right g-lt (lit< tt))

    y : ℕ
    y = p.units

    ya : y ≤ 2 ^ 121 * g + 2 ^ 126
    ya = le_trans p.above (add-le-add (le_of_eq (mul_comm g (2 ^ 121))) (le_refl (2 ^ 126)))

    yb : 2 ^ 121 * g ≤ y + 2 ^ 126
    yb = le_trans (le_of_eq (mul_comm (2 ^ 121) g)) p.below

    n : CosineNear R
    n = cosine-near R h

    W : ℕ
    W = whole 30 (2 ^ 56)

    family : Bool → Type 0
    family b = Within y (cosine_side b R (2 ^ 56)) (cosine_side (not b) R (2 ^ 56)) W

    go : Dec (t ≤ a) → family (leb t a)
    go (yes k) = subst family (sym (le-leb t a k)) (cosine-within g a t (cosine_added R (2 ^ 56)) (cosine_taken R (2 ^ 56)) W y (gap-plus a t k) n.plus-low n.plus-high n.minus-low n.minus-high ya yb)
    go (no f) =
        let k : a < t = lt_of_not-le f in
        subst family (sym (lt-leb t a k)) (cosine-within g t a (cosine_taken R (2 ^ 56)) (cosine_added R (2 ^ 56)) W y (gap-minus a t k) n.minus-low n.minus-high n.plus-low n.plus-high ya yb)
