-- The f32 nearest to an f64 of either sign, by their patterns, and the sine's pattern from its two sides. Definitions only.
use Rattle.std.specs.Prelude.{◌≡◌, ◌⊎◌, ℕ, ◌+◌, ◌*◌, ◌/◌, ◌%◌, ◌^◌, ◌≤◌, ◌<◌}
use Rattle.floats.specs.Patterns.{sign_place, wide_hidden, wide_sign_place}
use Rattle.decimal_rounding.specs.Wide.{narrowed_of}
use Rattle.trig_rule.specs.Steps.{gap_of, over_of, drop_of, pack_of}

-- the pattern of the f32 nearest to the f64 with the pattern b
abbrev pub signed_single : ℕ → ℕ
signed_single b = b / wide_sign_place * sign_place + narrowed_of (b % wide_sign_place)

-- of at least 2 ^ -126 and below 2 ^ 126 in size: each f32 about there has 24 digits
abbrev pub InRange : ℕ → Type 0
InRange b = (897 * wide_hidden ≤ b % wide_sign_place) × (b % wide_sign_place < 1149 * wide_hidden)

-- or 0
abbrev pub Ranged : ℕ → Type 0
Ranged b = (b % wide_sign_place ≡ 0) ⊎ InRange b

-- the f64 with the pattern b stands for the f32 with the pattern p
pub record Stands (b p : ℕ) : Type 0 where
  pub range : Ranged b
  pub single : signed_single b ≡ p

-- `sine_at` of a rest r whose two sides are a and t
abbrev pub sine_from : ℕ → ℕ → ℕ → ℕ → ℕ
sine_from turned r a t = (turned + over_of a t) % 2 * sign_place + pack_of (r / 2 ^ drop_of r * gap_of a t) (drop_of r)
