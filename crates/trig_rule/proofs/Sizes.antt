-- Sine and cosine are at most 64 in size, which is enough for the bounds of paths: the steps pack a number below 4, the sine of a small angle is the angle, and an angle in reach is at most 64. Assumes nothing.
use mathlib.Core.Path.{◌≡◌, refl, sym, ap, ◌∙◌, subst}
use Prim.Native.Nat.{ℕ, zero, suc, ◌+◌, ◌-◌, ◌*◌, ◌/◌, ◌%◌, ◌^◌, ◌≤◌, ◌<◌}
use native.Mathlib.Nat.{le_trans, le_of_eq, le_of_lt, lt_of_lt_of_le, lt_of_le_of_lt, lt_of_not-le, mod-lt, mul-one, mul_assoc, mul_right_comm, mul-le-mul}
use native.Mathlib.Nat.{mul-le-mul_right, mul-lt-mul_of_pos_right, le_of_mul-le-mul_right, div-mul-le_self}
use native.Mathlib.Omega.{arith}
use native.Mathlib.Decide.{dec_le}
use mathlib.Core.Bool.{Bool, true, false, cond}
use lib.Count.{count_leading_zeros, leading_length}
use lib.Dec.{T, leb, lit≤, lit<}
use lib.IntN.{pos}
use lib.Pow.{pow_pos, pow-add, pow_mono, shr_lt}
use lib.Ieee.{Float, nan, inf, fin, binary32, up, down, of_bits, le, lt, eq, fits}
use lib.Ieee.Bits.{is_true}
use lib.Ieee.Fits.{and_l, and_r, and_i}
use Rattle.floats.proofs.Signs.{SignedLe, le→signed, signed→le}
use Rattle.floats.proofs.Within.{Within, within-le}
use Rattle.floats.specs.Patterns.{sign_place}
use Rattle.trig_rule.specs.Rule.{in_the_reach, Is}
use Rattle.trig_rule.specs.Steps.{half, rest_of, fixed_of, flip_of, plain, sign_bit, sine_plus, sine_minus, cosine_plus, cosine_minus, gap_of, over_of, drop_of, pack_of, sine_at, cosine_at, sine_of, cosine_of}
use Rattle.trig_rule.proofs.Gaps.{sine-gap, cosine-gap}
use Rattle.trig_rule.proofs.Patterns.{bit, with-sign}
use Rattle.trig_rule.proofs.Packed.{Packed, pack-near, pack-lt}
use Rattle.trig_rule.proofs.Turns.{rest_le}
use Rattle.trig_rule.proofs.Ruled.{sine-main, sine-tiny, cosine-main, cosine-tiny}

-- ---- what is packed is at most 8
value-within : (y : Float) (s : Bool) (n : ℕ) → Is y s n → n ≤ 2 ^ 152 → Within 64 y
value-within nan s n v h = absurd v
value-within (inf t) s n v h = absurd v
value-within (fin t m e) s n v h =
    record {
      whole = tt;
      bound =
          le_of_mul-le-mul_right {k = 2 ^ 149}
          (le_trans (le_of_eq v.1) (le_trans (mul-le-mul_right (down e) (le_trans h (lit≤ tt))) (le_of_eq (mul_right_comm 64 (2 ^ 149) (down e))))) (pow_pos 149);
    }

packed-small : (w s : ℕ) (p : Packed w s) → w * 2 ^ s < 2 ^ 88 → p.units ≤ 2 ^ 152
packed-small w s p under =
    let e : w * 2 ^ (s + 63) ≡ w * 2 ^ s * 2 ^ 63 = ap (λ (n : ℕ). w * n) (pow-add 2 s 63) ∙ sym (mul_assoc w (2 ^ s) (2 ^ 63)) in
    let l : w * 2 ^ s * 2 ^ 63 ≤ 2 ^ 88 * 2 ^ 63 = mul-le-mul_right (2 ^ 63) (le_of_lt under) in
    le_trans (sums p.units (w * 2 ^ (s + 63)) (w * 2 ^ s * 2 ^ 63) (2 ^ 88 * 2 ^ 63) (2 ^ 126) p.above e l) (lit≤ tt)
  where
    sums : (y a b c d : ℕ) → y ≤ a + d → a ≡ b → b ≤ c → y ≤ c + d
    sums y a b c d h e l = omega arith

sign_of : (n : ℕ) → n < 2 → (s : Bool) × (n ≡ bit s)
sign_of zero h = (false, refl)
sign_of (suc zero) h = (true, refl)
sign_of (suc (suc n)) h = absurd (omega arith)

-- a sign and what is packed
signed-within : (n w s : ℕ) → n < 2 → w < 2 ^ 64 → s ≤ 60 → w * 2 ^ s < 2 ^ 88 → Within 64 (of_bits binary32 (n * sign_place + pack_of w s))
signed-within n w s few small short under =
    let p = pack-near w s small short under in
    let b = sign_of n few in
    subst (λ (k : ℕ). Within 64 (of_bits binary32 (k * sign_place + pack_of w s))) (sym b.1)
    (value-within (of_bits binary32 (bit b.0 * sign_place + pack_of w s)) b.0 p.units (with-sign b.0 (pack_of w s) p.units (pack-lt w s short) p.value) (packed-small w s p under))

module _ (R : ℕ) (h : R ≤ half) where
  kept-lt : R / 2 ^ drop_of R < 2 ^ 31
  kept-lt =
      let l = leading_length 64 R (omega arith) in
      let e : count_leading_zeros 64 R + l.0 ≡ 64 = l.1 in
      let m : l.0 ≤ 31 + drop_of R = omega arith in
      shr_lt 31 (drop_of R) (lt_of_lt_of_le l.2 (pow_mono m))

  sine-at-within : (turned : ℕ) → Within 64 (of_bits binary32 (sine_at turned R))
  sine-at-within turned =
      let g = gap_of (sine_plus R) (sine_minus R) in
      let s = drop_of R in
      signed-within ((turned + over_of (sine_plus R) (sine_minus R)) % 2) (R / 2 ^ s * g) s (mod-lt (turned + over_of (sine_plus R) (sine_minus R)) {m = 2} (omega arith))
      (lt_of_le_of_lt (mul-le-mul (le_of_lt kept-lt) (sine-gap R h)) (omega arith)) (omega arith)
      (lt_of_le_of_lt (le_of_eq (mul_right_comm (R / 2 ^ s) g (2 ^ s))) (lt_of_le_of_lt (mul-le-mul (le_trans (div-mul-le_self R (2 ^ s)) h) (sine-gap R h)) (omega arith)))

  cosine-at-within : Within 64 (of_bits binary32 (cosine_at R))
  cosine-at-within =
      let g = gap_of (cosine_plus R) (cosine_minus R) in
      signed-within (over_of (cosine_plus R) (cosine_minus R)) g 58 (over-lt (leb (cosine_minus R) (cosine_plus R)))
      (lt_of_lt_of_le (cosine-gap R h) (omega arith)) (omega arith) (mul-lt-mul_of_pos_right (cosine-gap R h) (lit< tt))
    where
      over-lt : (b : Bool) → cond b 0 1 < 2
      over-lt true = omega arith
      over-lt false = omega arith

-- ---- in reach
reach-high : of_bits binary32 1115684864 ≡ fin false 1 (pos 6)
unfolding of_bits
reach-high = refl

reach-low : of_bits binary32 3263168512 ≡ fin true 1 (pos 6)
unfolding of_bits
reach-low = refl

sized : (x : Float) → T (le x (fin false 1 (pos 6))) → T (le (fin true 1 (pos 6)) x) → Within 64 x
unfolding le lt eq
sized nan l u = absurd l
sized (inf true) l u = absurd u
sized (inf false) l u = absurd l
sized (fin false m e) l u = record { whole = tt; bound = le_trans (le_of_eq (sym (mul-one (m * up e)))) (le→signed false (m * up e * 1) false (1 * 2 ^ 6 * down e) l) }
sized (fin true m e) l u = record { whole = tt; bound = le_trans (le_of_eq (sym (mul-one (m * up e)))) (le→signed true (1 * 2 ^ 6 * down e) true (m * up e * 1) u) }

reach-within : (x : Float) → T (in_the_reach x) → Within 64 x
reach-within x h =
    sized x (subst (λ (z : Float). T (le x z)) reach-high (and_r (le (of_bits binary32 3263168512) x) (le x (of_bits binary32 1115684864)) h))
    (subst (λ (z : Float). T (le z x)) reach-low (and_l (le (of_bits binary32 3263168512) x) (le x (of_bits binary32 1115684864)) h))

pub within-reach : (z : Float) → Within 32 z → T (in_the_reach z)
unfolding le of_bits
within-reach nan w = absurd w.whole
within-reach (inf s) w = absurd w.whole
within-reach (fin s m e) w =
    and_i (le (of_bits binary32 3263168512) (fin s m e)) (le (fin s m e) (of_bits binary32 1115684864))
    (signed→le true (64 * down e) s (m * up e * 1) (above s (m * up e) (down e) w.bound))
    (signed→le s (m * up e * 1) false (64 * down e) (under s (m * up e) (down e) w.bound))
  where
    above : (s : Bool) (a d : ℕ) → a ≤ 32 * d → SignedLe true (64 * d) s (a * 1)
    above true a d h = omega arith
    above false a d h = tt

    under : (s : Bool) (a d : ℕ) → a ≤ 32 * d → SignedLe s (a * 1) false (64 * d)
    under true a d h = tt
    under false a d h = omega arith

one-within : Within 64 (of_bits binary32 1065353216)
unfolding of_bits
one-within = record { whole = tt; bound = lit≤ tt }

-- ---- every angle in reach
pub sine-within : (x : Float) → T (in_the_reach x) → Within 64 (sine_of x)
sine-within x t = go (dec_le 964689920 (plain x))
  where
    go : Dec (964689920 ≤ plain x) → Within 64 (sine_of x)
    go (yes l) = subst (Within 64) (sym (sine-main x (is_true (in_the_reach x) t) l)) (sine-at-within (rest_of (fixed_of (plain x))) (rest_le (fixed_of (plain x))) (sign_bit x + flip_of (fixed_of (plain x))))
    go (no g) = subst (Within 64) (sym (sine-tiny x (is_true (in_the_reach x) t) (lt_of_not-le g))) (reach-within x t)

pub cosine-within : (x : Float) → T (in_the_reach x) → Within 64 (cosine_of x)
cosine-within x t = go (dec_le 964689920 (plain x))
  where
    go : Dec (964689920 ≤ plain x) → Within 64 (cosine_of x)
    go (yes l) = subst (Within 64) (sym (cosine-main x (is_true (in_the_reach x) t) l)) (cosine-at-within (rest_of (fixed_of (plain x))) (rest_le (fixed_of (plain x))))
    go (no g) = subst (Within 64) (sym (cosine-tiny x (is_true (in_the_reach x) t) (lt_of_not-le g))) one-within
