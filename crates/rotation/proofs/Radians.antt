-- The radians of every finite rotation are within 8, so that their sine and cosine are numbers. Assumes nothing.
use Prim.Native.Nat.{ℕ, ◌*◌, ◌^◌, ◌≤◌}
use native.Mathlib.Nat.{le_trans, le_of_eq, mul_right_comm, mul-le-mul_right, mul-pos, le_of_mul-le-mul_right}
use native.Mathlib.Omega.{arith}
use mathlib.Core.Bool.{Bool, true, false, not}
use lib.Dec.{T, lit≤, lit<}
use lib.Pow.{pow_pos}
use lib.Ieee.{Float, nan, inf, fin, binary32, up, down, of_bits, mul, div, unlike, le, fits, is_nan}
use lib.Ieee.Fits.{down_pos, and_i, div-fits}
use lib.Ieee.Scale.{finite}
use Rattle.floats.proofs.Signs.{SignedLe, signed→le}
use Rattle.floats.proofs.Within.{Within, holds-scaled, round-within, mul-within}
use Rattle.trig_rule.specs.Rule.{in_the_reach, Is}
use Rattle.trig_rule.specs.Steps.{sine_of, cosine_of}
use Rattle.trig_rule.proofs.Ruled.{sine-keeps-rule, cosine-keeps-rule}
use Rattle.math.specs.Math.{pi_f, half_turn_f, deg_to_rad_of}
use Rattle.rotation.specs.Rotation.{reduced_of, phi_of}
use Rattle.rotation.proofs.Laws.{own-size, Within360, reduced-within360}

-- ---- 360 degrees are at most 8 radians
degrees-within : (y : Float) → Within360 y → Within 360 y
degrees-within nan w = absurd w.whole
degrees-within (inf s) w = absurd w.whole
degrees-within (fin s m e) w =
    record {
      whole = tt;
      bound =
          le_of_mul-le-mul_right {k = 2 ^ 149}
          (le_trans (le_of_eq (own-size s m e w.held).1) (le_trans (mul-le-mul_right (down e) w.size) (le_of_eq (mul_right_comm 360 (2 ^ 149) (down e))))) (pow_pos 149);
    }

pi-within : Within 4 pi_f
unfolding pi_f of_bits
pi-within = record { whole = tt; bound = lit≤ tt }

half-turns : (x : Float) → Within 1440 x → Within 8 (div binary32 x half_turn_f)
unfolding div half_turn_f of_bits
half-turns nan w = absurd w.whole
half-turns (inf s) w = absurd w.whole
half-turns (fin s m e) w =
    round-within binary32 (unlike s false) (m * up e * 1) (180 * down e) 8 (mul-pos (lit< tt) (down_pos e)) (holds-scaled binary32 1 1 3 (lit< tt) (lit≤ tt) (lit≤ tt))
    (fits_in (m * up e) (down e) w.bound)
  where
    fits_in : (a d : ℕ) → a ≤ 1440 * d → a * 1 ≤ 8 * (180 * d)
    fits_in a d h = omega arith

radians-within : (y : Float) → Within360 y → Within 8 (deg_to_rad_of y)
unfolding deg_to_rad_of
radians-within y w = half-turns (mul binary32 y pi_f) (mul-within binary32 360 4 y pi_f (holds-scaled binary32 6 45 5 (lit< tt) (lit≤ tt) (lit≤ tt)) (degrees-within y w) pi-within)

-- ---- so every finite rotation is in reach
near-reach : (z : Float) → Within 8 z → T (in_the_reach z)
unfolding le of_bits
near-reach nan w = absurd w.whole
near-reach (inf s) w = absurd w.whole
near-reach (fin s m e) w =
    and_i (le (of_bits binary32 3263168512) (fin s m e)) (le (fin s m e) (of_bits binary32 1115684864))
    (signed→le true (64 * down e) s (m * up e * 1) (above s (m * up e) (down e) w.bound))
    (signed→le s (m * up e * 1) false (64 * down e) (under s (m * up e) (down e) w.bound))
  where
    above : (s : Bool) (a d : ℕ) → a ≤ 8 * d → SignedLe true (64 * d) s (a * 1)
    above true a d h = omega arith
    above false a d h = tt

    under : (s : Bool) (a d : ℕ) → a ≤ 8 * d → SignedLe s (a * 1) false (64 * d)
    under true a d h = tt
    under false a d h = omega arith

number_of : (y : Float) (s : Bool) (n : ℕ) → Is y s n → T (not (is_nan y))
unfolding is_nan
number_of nan s n v = v
number_of (inf t) s n v = tt
number_of (fin t m e) s n v = tt

module _ (degrees : Float) (held : T (fits binary32 degrees)) (number : T (finite degrees)) where
  pub phi-within : Within 8 (phi_of degrees)
  unfolding phi_of
  phi-within = radians-within (reduced_of degrees) (reduced-within360 degrees held number)

  pub phi-in-reach : T (in_the_reach (phi_of degrees))
  phi-in-reach = near-reach (phi_of degrees) phi-within

  -- sine and cosine of phi are no NaN
  phi-fits : T (fits binary32 (phi_of degrees))
  unfolding phi_of deg_to_rad_of
  phi-fits = div-fits binary32 (mul binary32 (reduced_of degrees) pi_f) half_turn_f

  pub sine-number : T (not (is_nan (sine_of (phi_of degrees))))
  sine-number = let rule = sine-keeps-rule (phi_of degrees) phi-fits phi-in-reach in number_of (sine_of (phi_of degrees)) rule.negative rule.units rule.answer

  pub cosine-number : T (not (is_nan (cosine_of (phi_of degrees))))
  cosine-number = let rule = cosine-keeps-rule (phi_of degrees) phi-fits phi-in-reach in number_of (cosine_of (phi_of degrees)) rule.negative rule.units rule.answer
