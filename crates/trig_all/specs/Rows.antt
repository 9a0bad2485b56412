-- A run: at most 8 of a row of 32 angles. The passes over it fill rows of 8 whole numbers in, a place for each angle. Definitions only.
use Rattle.std.specs.Prelude.{ℕ, ◌+◌, ◌≤◌, ◌<◌, ◌⊎◌, ◌≡◌, cond, List, get_or, length, Float}
use Rattle.std.specs.Float.{nan}
use Rattle.trig_rule.specs.Rule.{in_the_reach}
use Rattle.trig_rule.specs.Steps.{fixed_of, rest_of, flip_of, plain, tiny}

-- ---- one angle
-- the bits without the sign of an angle that the definition takes steps for, and those of 1 for any other, so that the passes need no branch
unfoldable pub stepped_bits : Float → ℕ
stepped_bits x = cond (in_the_reach x) (cond (tiny x) 1065353216 (plain x)) 1065353216

-- what whole turns leave of it, and 1 where it is below the nearest
abbrev pub rest_for : Float → ℕ
rest_for x = rest_of (fixed_of (stepped_bits x))

abbrev pub flip_for : Float → ℕ
flip_for x = flip_of (fixed_of (stepped_bits x))

-- ---- a row of whole numbers
-- of 8 places each of the first n has its number
pub record Row (numbers : ℕ → ℕ) (n : ℕ) (row : List ℕ) : Type 0 where
  pub size : length row ≡ 8
  pub each : (k : ℕ) → k < n → get_or row k 0 ≡ numbers k

-- each of the first n numbers is below the limit
abbrev pub Below : ℕ → ℕ → List ℕ → Type 0
Below limit n row = (k : ℕ) → k < n → get_or row k 0 < limit

-- ---- a run of angles: n of them, from place `at` on
abbrev pub angle_of : List Float → ℕ → ℕ → Float
angle_of angles at k = get_or angles (at + k) nan

abbrev pub rest_at : List Float → ℕ → ℕ → ℕ
rest_at angles at k = rest_for (angle_of angles at k)

abbrev pub flip_at : List Float → ℕ → ℕ → ℕ
flip_at angles at k = flip_for (angle_of angles at k)

-- of 32 places the run's have what f gives of its angles, and the others what they had
pub record Run (f : Float → Float) (at n : ℕ) (angles old row : List Float) : Type 0 where
  pub size : length row ≡ 32
  pub own : (k : ℕ) → k < n → get_or row (at + k) nan ≡ f (angle_of angles at k)
  pub rest : (j : ℕ) → (j < at) ⊎ (at + n ≤ j) → get_or row j nan ≡ get_or old j nan
