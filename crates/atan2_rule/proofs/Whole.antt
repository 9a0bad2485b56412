-- Every finite f32 is a whole number of 2 ^ -149, fewer than 2 ^ 277. Assumes nothing.
use mathlib.Core.Path.{◌≡◌, refl, sym, ap, ◌∙◌}
use Prim.Native.Nat.{ℕ, zero, suc, ◌+◌, ◌-◌, ◌*◌, ◌^◌, ◌≤◌, ◌<◌}
use native.Mathlib.Nat.{le_trans, le_of_eq, lt_of_lt_of_le, lt_of_le_of_lt, lt_of_not-le, not-le_of_lt, mul-one, zero-mul, mul_assoc, mul_right_comm, mul-lt-mul_of_pos_right, mul-le-mul_right}
use native.Mathlib.Omega.{arith}
use mathlib.Core.Bool.{Bool, true, false}
use lib.Dec.{T, ltb, lit≤}
use lib.Pow.{pow_pos, pow-lt, pow-add}
use lib.IntN.{ℤ, pos, negsuc}
use lib.Ieee.{Float, nan, inf, fin, up, down, binary32, fits, to_bits}
use lib.Ieee.Fits.{down_pos}
use lib.Ieee.Scale.{finite}
use Rattle.floats.specs.Patterns.{wide_infinity_bits}
use Rattle.floats.proofs.Held.{fits-bounds}
use borrow.Author.Tests.{lt-ltb}
use Rattle.trig_rule.specs.Rule.{Is}
use Rattle.atan2_rule.specs.Steps.{plain}
use Rattle.atan2_rule.proofs.Sizes.{wide-lt, plain-is}

pub record Whole (x : Float) : Type 0 where
  pub minus : Bool
  pub units : ℕ
  pub is : Is x minus units
  pub small : units < 2 ^ 277

-- n is a · 2^149 / d, where 2 ^ 149 is a multiple of d
whole_of : (m : ℕ) (e : ℤ) → down e ≤ 2 ^ 149 → (N : ℕ) × (m * up e * 2 ^ 149 ≡ N * down e)
whole_of m (pos k) h = (m * 2 ^ k * 2 ^ 149, sym (mul-one (m * 2 ^ k * 2 ^ 149)))
whole_of m (negsuc k) h =
    (m * 2 ^ (149 - suc k), ap (λ (a : ℕ). a * 2 ^ 149) (mul-one m) ∙ ap (λ (j : ℕ). m * 2 ^ j) (sym together) ∙ ap (λ (a : ℕ). m * a) (pow-add 2 (149 - suc k) (suc k)) ∙ sym (mul_assoc m (2 ^ (149 - suc k)) (2 ^ suc k)))
  where
    short : suc k ≤ 149
    short = le-of-lt-suc (lt_of_not-le (λ (g : 150 ≤ suc k). not-le_of_lt (pow-lt {i = 149} g) h))
      where
        le-of-lt-suc : {a b : ℕ} → a < suc b → a ≤ b
        le-of-lt-suc l = omega arith

    together : 149 - suc k + suc k ≡ 149
    together = let s = short in omega arith

few-units : (a d N : ℕ) → 0 < d → a < 2 ^ 128 * d → a * 2 ^ 149 ≡ N * d → N < 2 ^ 277
few-units a d N posd h e =
    lt_of_not-le (λ (g : 2 ^ 277 ≤ N).
    not-le_of_lt (lt_of_lt_of_le (mul-lt-mul_of_pos_right h (pow_pos 149)) (le_of_eq (mul_right_comm (2 ^ 128) d (2 ^ 149))))
    (le_trans (mul-le-mul_right d g) (le_of_eq (sym e))))

pub whole : (x : Float) → T (fits binary32 x) → T (finite x) → Whole x
whole nan f t = absurd t
whole (inf s) f t = absurd t
whole (fin s zero e) f t = record { minus = s; units = 0; is = (refl, ap (λ (a : ℕ). a * 2 ^ 149) (zero-mul (up e)) ∙ zero-mul (2 ^ 149) ∙ sym (zero-mul (down e))); small = lit≤ tt }
whole (fin s (suc m) e) f t =
    let b = fits-bounds binary32 s m e f in
    let w = whole_of (suc m) e b.1 in
    record { minus = s; units = w.0; is = (refl, w.1); small = few-units (suc m * up e) (down e) w.0 (down_pos e) b.2 w.1 }

-- ---- what is not finite has the bits of an infinity, or more
pub bits-finite : (x : Float) → T (fits binary32 x) → ltb (plain x) wide_infinity_bits ≡ finite x
unfolding to_bits
bits-finite nan f = refl
bits-finite (inf true) f = refl
bits-finite (inf false) f = refl
bits-finite (fin s m e) f =
    let w = whole (fin s m e) f tt in
    lt-ltb (plain (fin s m e)) wide_infinity_bits (lt_of_le_of_lt (le_of_eq (plain-is (fin s m e) w.minus w.units w.is w.small)) (lt_of_lt_of_le (wide-lt w.units w.small) (lit≤ tt)))
