-- The rule for sine and cosine (document 01, "Arcs"): "The answer lies within 2^-22 of the Taylor sums through r^31/31! and r^30/30!, with fractions compared as whole numbers." Definitions only.
use Rattle.std.specs.Prelude.{ℕ, ◌+◌, ◌*◌, ◌^◌, ◌≤◌, Bool, not, ◌&&◌, Float}
use Rattle.std.specs.Float.{binary32}
use Rattle.std.specs.Float.Ieee.{of_bits, le, unlike}
use Rattle.std.specs.Float.Ieee.Exact.{HasValue}
use Rattle.trig_rule.specs.Sums.{whole, sine_side, cosine_side}
use Rattle.trig_rule.specs.Reduction.{Reduced}

-- "angles of at most 64 radians in size": from -64 to 64. A NaN is not among them.
abbrev pub in_the_reach : Float → Bool
in_the_reach x = le (of_bits binary32 3263168512) x && le x (of_bits binary32 1115684864)

-- x is finite, of the sign s (true: minus), and n units of 2 ^ -149 in size
abbrev pub Is : Float → Bool → ℕ → Type 0
Is x s n = HasValue x s n (2 ^ 149)

-- "within 2^-22", in units of 2 ^ -149
abbrev pub tolerance : ℕ
tolerance = 2 ^ 127

-- m / 2 ^ 149 is within 2 ^ -22 of (a - t) / w, both sides multiplied by 2 ^ 149 * w
pub record Within (m a t w : ℕ) : Type 0 where
  pub above : m * w + 2 ^ 149 * t ≤ 2 ^ 149 * a + tolerance * w
  pub below : 2 ^ 149 * a ≤ m * w + 2 ^ 149 * t + tolerance * w

-- The sine of x is the sum at r, and its opposite where just one of the angle and what the turns leave of its size is negative.
-- Where the answer's sign differs from that one, what is added and what is taken away change places.
pub record SineRule (x y : Float) : Type 0 where
  pub minus : Bool
  pub size : ℕ
  pub angle : Is x minus size
  pub rest : ℕ
  pub below : Bool
  pub reduced : Reduced size rest below
  pub negative : Bool
  pub units : ℕ
  pub answer : Is y negative units
  pub within : let other = unlike (unlike minus below) negative in
      Within units (sine_side (not other) rest (2 ^ 149)) (sine_side other rest (2 ^ 149)) (whole 31 (2 ^ 149))

-- The cosine of x is the sum at r, whatever the signs.
pub record CosineRule (x y : Float) : Type 0 where
  pub minus : Bool
  pub size : ℕ
  pub angle : Is x minus size
  pub rest : ℕ
  pub below : Bool
  pub reduced : Reduced size rest below
  pub negative : Bool
  pub units : ℕ
  pub answer : Is y negative units
  pub within : Within units (cosine_side (not negative) rest (2 ^ 149)) (cosine_side negative rest (2 ^ 149)) (whole 30 (2 ^ 149))
