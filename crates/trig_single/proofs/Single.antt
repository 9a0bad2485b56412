-- An f64's pattern rounded to 24 digits is that of an f32 once 896 is taken off the exponent's field. Assumes nothing.
use mathlib.Core.Path.{◌≡◌, refl, sym, ap, ◌∙◌, subst}
use mathlib.Core.Logic.{inl, ⊎_elim}
use mathlib.Core.Bool.{Bool, true, false, cond, not, ◌&&◌}
use Prim.Native.Nat.{ℕ, ◌+◌, ◌-◌, ◌*◌, ◌/◌, ◌%◌, ◌^◌, ◌≤◌, ◌<◌}
use native.Mathlib.Nat.{lt_of_lt_of_le, mul_assoc}
use native.Mathlib.Omega.{arith}
use borrow.Author.Tests.{ltb-true, ltb-false}
use lib.Dec.{T, ltb}
use lib.Pow.{pow-add, pow_pos, pow_mono, shl_lt}
use lib.Ieee.{Float, binary32, binary64, units, fits, of_bits, nan_bits, is_nan}
use lib.Ieee.Bits.{of_bits-fits, nan_bits_is}
use lib.Ieee.Exact.{HasValue, units_val}
use lib.Ieee.Fits.{fits_widens, and_i}
use Rattle.floats.specs.Patterns.{hidden, sign_place, wide_hidden, wide_sign_place, wide_infinity_bits, narrow_step, narrow_half}
use Rattle.decimal_rounding.proofs.Pattern.{units-bits}
use Rattle.decimal_rounding.proofs.Values.{value-unique}
use Rattle.decimal_rounding.specs.Wide.{narrowed_of}
use Rattle.trig_single.specs.Single.{signed_single, InRange, Ranged}
use Rattle.trig_single.proofs.Finite.{finite-bits}
use Rattle.trig_single.proofs.Values.{value-scaled}

-- ---- m steps of 2 ^ x of the smallest f32, as an f64 of 29 digits more
module _ (s : Bool) (m x : ℕ) (low : 2 ^ 23 ≤ m) (high : m ≤ 2 ^ 24) (reach : x ≤ 252) where
  small : m * 2 ^ x < 2 ^ 277
  small = let l : 25 + x ≤ 277 = omega arith in lt_of_lt_of_le (shl_lt 25 x (let h : m < 2 ^ 25 = omega arith in h)) (pow_mono l)

  large : m * 2 ^ 29 * 2 ^ (x + 896) < 2 ^ 2098
  large = let l : 54 + (x + 896) ≤ 2098 = omega arith in lt_of_lt_of_le (shl_lt 54 (x + 896) (let h : m * 2 ^ 29 < 2 ^ 54 = omega arith in h)) (pow_mono l)

  wide-bits : units binary64 s (m * 2 ^ 29) (x + 896) ≡ of_bits binary64 (cond s wide_sign_place 0 + (x + 896) * wide_hidden + m * 2 ^ 29)
  wide-bits = units-bits binary64 s (m * 2 ^ 29) (x + 896) (omega arith) (inl (omega arith)) large

  single-bits : units binary32 s m x ≡ of_bits binary32 (cond s sign_place 0 + x * hidden + m)
  single-bits = units-bits binary32 s m x high (inl low) small

  wide_value : HasValue (units binary64 s (m * 2 ^ 29) (x + 896)) s (m * 2 ^ x * 2 ^ 925) (2 ^ 149 * 2 ^ 925)
  wide_value =
      let e : 29 + (x + 896) ≡ x + 925 = omega arith in
      subst (λ (n : ℕ). HasValue (units binary64 s (m * 2 ^ 29) (x + 896)) s n (2 ^ 149 * 2 ^ 925))
      (mul_assoc m (2 ^ 29) (2 ^ (x + 896)) ∙ ap (λ (n : ℕ). m * n) (sym (pow-add 2 29 (x + 896)) ∙ ap (λ (n : ℕ). 2 ^ n) e ∙ pow-add 2 x 925) ∙ sym (mul_assoc m (2 ^ x) (2 ^ 925)))
      (units_val binary64 s (m * 2 ^ 29) (x + 896) large)

  pub single-wide :
      of_bits binary64 (cond s wide_sign_place 0 + (x + 896) * wide_hidden + m * 2 ^ 29) ≡ of_bits binary32 (cond s sign_place 0 + x * hidden + m)
  single-wide =
      let wide = cond s wide_sign_place 0 + (x + 896) * wide_hidden + m * 2 ^ 29 in
      let single = cond s sign_place 0 + x * hidden + m in
      sym wide-bits
      ∙ value-unique binary64 (units binary64 s (m * 2 ^ 29) (x + 896)) (units binary32 s m x) s (m * 2 ^ x * 2 ^ 925) (2 ^ 149 * 2 ^ 925) (pow_pos 1074)
      (subst (λ (y : Float). T (fits binary64 y)) (sym wide-bits) (of_bits-fits binary64 wide))
      (fits_widens (units binary32 s m x) (subst (λ (y : Float). T (fits binary32 y)) (sym single-bits) (of_bits-fits binary32 single)))
      wide_value (value-scaled (units binary32 s m x) s (m * 2 ^ x) (2 ^ 149) (2 ^ 925) (units_val binary32 s m x small))
      ∙ single-bits

-- ---- a pattern without its sign, rounded
-- the pattern b of an f64 with its digits rounded to 24, halves away from 0
abbrev pub rounded_wide : ℕ → ℕ
rounded_wide b = (b + narrow_half) / narrow_step * narrow_step

module _ (s : Bool) (p : ℕ) (low : 897 * wide_hidden ≤ p) (high : p < 1149 * wide_hidden) where
  pub rounded-single : of_bits binary64 (cond s wide_sign_place 0 + rounded_wide p) ≡ of_bits binary32 (cond s sign_place 0 + narrowed_of p)
  rounded-single =
      let x = p / wide_hidden - 897 in
      let m = hidden + (p % wide_hidden + narrow_half) / narrow_step in
      let w : rounded_wide p ≡ (x + 896) * wide_hidden + m * 2 ^ 29 = omega arith in
      let n : narrowed_of p ≡ x * hidden + m = omega arith in
      ap (of_bits binary64) (let e : cond s wide_sign_place 0 + rounded_wide p ≡ cond s wide_sign_place 0 + (x + 896) * wide_hidden + m * 2 ^ 29 = omega arith in e)
      ∙ single-wide s m x (omega arith) (omega arith) (omega arith)
      ∙ ap (of_bits binary32) (let e : cond s sign_place 0 + x * hidden + m ≡ cond s sign_place 0 + narrowed_of p = omega arith in e)

-- ---- a pattern with its sign, in the range of f32
module _ (b : ℕ) (fit : b < 2 ^ 64) where
  signed-single : InRange b → of_bits binary64 (rounded_wide b) ≡ of_bits binary32 (signed_single b)
  signed-single r = go (ltb b wide_sign_place) refl
    where
      p : ℕ
      p = b % wide_sign_place

      go : (x : Bool) → ltb b wide_sign_place ≡ x → of_bits binary64 (rounded_wide b) ≡ of_bits binary32 (signed_single b)
      go true e =
          let h = ltb-true b wide_sign_place e in
          ap (of_bits binary64) (let g : rounded_wide b ≡ 0 + rounded_wide p = omega (arith, r.0, r.1) in g)
          ∙ rounded-single false p r.0 r.1
          ∙ ap (of_bits binary32) (let g : 0 + narrowed_of p ≡ b / wide_sign_place * sign_place + narrowed_of p = omega arith in g)
      go false e =
          let h = ltb-false b wide_sign_place e in
          ap (of_bits binary64) (let g : rounded_wide b ≡ wide_sign_place + rounded_wide p = omega arith in g)
          ∙ rounded-single true p r.0 r.1
          ∙ ap (of_bits binary32) (let g : sign_place + narrowed_of p ≡ b / wide_sign_place * sign_place + narrowed_of p = omega arith in g)

  zero-single : b % wide_sign_place ≡ 0 → of_bits binary64 (rounded_wide b) ≡ of_bits binary32 (signed_single b)
  unfolding of_bits
  zero-single z = go (ltb b wide_sign_place) refl
    where
      at : (n : ℕ) → b ≡ n → of_bits binary64 (rounded_wide n) ≡ of_bits binary32 (signed_single n) → of_bits binary64 (rounded_wide b) ≡ of_bits binary32 (signed_single b)
      at n e p = subst (λ (n : ℕ). of_bits binary64 (rounded_wide n) ≡ of_bits binary32 (signed_single n)) (sym e) p

      go : (x : Bool) → ltb b wide_sign_place ≡ x → of_bits binary64 (rounded_wide b) ≡ of_bits binary32 (signed_single b)
      go true e = let h = ltb-true b wide_sign_place e in at 0 (omega arith) refl
      go false e = let h = ltb-false b wide_sign_place e in at wide_sign_place (omega arith) refl

  pub wide-single : Ranged b → of_bits binary64 (rounded_wide b) ≡ of_bits binary32 (signed_single b)
  wide-single = ⊎_elim zero-single signed-single

  pub wide_room : Ranged b → b + narrow_half < 2 ^ 64
  wide_room = ⊎_elim (λ e. omega arith) (λ r. omega (arith, r.0, r.1))

  rounded-plain : Ranged b → rounded_wide b % wide_sign_place < wide_infinity_bits
  rounded-plain = ⊎_elim (λ e. omega arith) (λ r. omega (arith, r.0, r.1))

  pub wide-finite : Ranged b → T (not (nan_bits binary64 (rounded_wide b)))
  wide-finite r = finite-bits (rounded_wide b) (rounded-plain r)

  -- the cast loses nothing
  pub wide-cast : Ranged b → T (fits binary32 (of_bits binary64 (rounded_wide b)) && not (is_nan (of_bits binary64 (rounded_wide b))))
  wide-cast r =
      let x = of_bits binary64 (rounded_wide b) in
      and_i (fits binary32 x) (not (is_nan x)) (subst (λ (y : Float). T (fits binary32 y)) (sym (wide-single r)) (of_bits-fits binary32 (signed_single b)))
      (subst (λ (t : Bool). T (not t)) (nan_bits_is binary64 (rounded_wide b)) (wide-finite r))
