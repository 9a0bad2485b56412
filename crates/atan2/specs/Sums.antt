-- The four sides of the sums by steps, in units of 2 ^ -30, as the code holds them, and the test on them. Definitions only.
use Rattle.std.specs.Prelude.{◌≡◌, ℕ, ◌+◌, ◌*◌, ◌≤◌, Bool, cond, ◌&&◌, leb, eqb}
use Rattle.atan2_rule.specs.Steps.{cosine_up, cosine_down, sine_up, sine_down}

-- no side is larger than the largest at half a turn
pub record Bounded (cu cd su sd : ℕ) : Type 0 where
  pub cosine-up-most : cu ≤ 6760253432
  pub cosine-down-most : cd ≤ 6760253432
  pub sine-up-most : su ≤ 6760253432
  pub sine-down-most : sd ≤ 6760253432

-- the four sides at R
pub record SumsAt (R cu cd su sd : ℕ) : Type 0 where
  pub cosine-up : cu ≡ cosine_up R
  pub cosine-down : cd ≡ cosine_down R
  pub sine-up : su ≡ sine_up R
  pub sine-down : sd ≡ sine_down R
  pub bounded : Bounded cu cd su sd

-- `passes_at` with the sides given
abbrev pub judged_of : ℕ → ℕ → ℕ → ℕ → ℕ → ℕ → ℕ → ℕ → Bool
judged_of u v left flip cu cd su sd =
    leb (u * cu + v * cond (eqb left flip) sd su) (u * cd + v * cond (eqb left flip) su sd + 900 * (u + v))
    && (leb (u * cd + v * cond (eqb left flip) su sd) (u * cu + v * cond (eqb left flip) sd su + 900 * (u + v))
    && leb (v * cond (eqb left 0) cd cu + u * cond (eqb flip 0) sd su + 900 * (u + v)) (v * cond (eqb left 0) cu cd + u * cond (eqb flip 0) su sd))
