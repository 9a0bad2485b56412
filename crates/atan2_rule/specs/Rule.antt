-- The rule for atan2 (document 01, "Arcs"): "Atan2 of finite y, x, not both 0, is an a in [-PI, PI] (PI is 40490FDB) with |y·cos a - x·sin a| at most 2^-20·(|x|+|y|)
-- and x·cos a + y·sin a above 0, by those sums." Every finite f32 is a whole number of 2 ^ -149, so that all of it is said of whole numbers. Definitions only.
use Rattle.std.specs.Prelude.{ℕ, ◌+◌, ◌*◌, ◌^◌, ◌≤◌, ◌<◌, Bool, true, false, Float}
use Rattle.std.specs.Float.Ieee.{unlike}
use Rattle.trig_rule.specs.Sums.{whole, sine_side, cosine_side}
use Rattle.trig_rule.specs.Reduction.{Reduced}
use Rattle.trig_rule.specs.Rule.{Is}

-- "PI is 40490FDB": 13176795 / 2 ^ 22, in units of 2 ^ -149
abbrev pub pi_units : ℕ
pi_units = 13176795 * 2 ^ 127

-- A number of n units, negative where s is true, times the sum at r units: what the product adds (side `true`) and what it takes away (side `false`).
-- A negative number exchanges the sum's sides. Both products stand over one denominator, `over`.
abbrev pub times_cosine : Bool → ℕ → ℕ → Bool → ℕ
times_cosine s n r b = n * cosine_side (unlike s b) r (2 ^ 149) * whole 31 (2 ^ 149)

abbrev pub times_sine : Bool → ℕ → ℕ → Bool → ℕ
times_sine s n r b = n * sine_side (unlike s b) r (2 ^ 149) * whole 30 (2 ^ 149)

abbrev pub over : ℕ
over = whole 30 (2 ^ 149) * whole 31 (2 ^ 149)

-- y is Y units and x is X units, negative where p and q are true; a reduces to r units, and sin a is the sum at r, its opposite where t is true.
-- The two inequalities of |y·cos a - x·sin a| ≤ 2^-20·(|x|+|y|) are multiplied by 2 ^ 20 * 2 ^ 149 * over, that of x·cos a + y·sin a > 0 by 2 ^ 149 * over.
pub record Points (p : Bool) (Y : ℕ) (q : Bool) (X : ℕ) (t : Bool) (r : ℕ) : Type 0 where
  pub above : 2 ^ 20 * (times_cosine p Y r true + times_sine (unlike t q) X r false) ≤ 2 ^ 20 * (times_cosine p Y r false + times_sine (unlike t q) X r true) + (X + Y) * over
  pub below : 2 ^ 20 * (times_cosine p Y r false + times_sine (unlike t q) X r true) ≤ 2 ^ 20 * (times_cosine p Y r true + times_sine (unlike t q) X r false) + (X + Y) * over
  pub forward : times_cosine q X r false + times_sine (unlike t p) Y r false < times_cosine q X r true + times_sine (unlike t p) Y r true

-- "It has the sign bit of y": a's sign is y's, so that one `minus` serves both.
pub record Atan2Rule (y x a : Float) : Type 0 where
  pub minus : Bool
  pub rise : ℕ
  pub ordinate : Is y minus rise
  pub left : Bool
  pub run : ℕ
  pub abscissa : Is x left run
  pub size : ℕ
  pub angle : Is a minus size
  pub range : size ≤ pi_units
  pub rest : ℕ
  pub below : Bool
  pub reduced : Reduced size rest below
  pub points : Points minus rise left run (unlike minus below) rest
