-- A rotation without its full turns (SVG 1.1, F.6.2: phi "is taken mod 360 degrees"). Degrees are `f32` values; sizes count 2 ^ -149, of which every finite f32
-- is a whole number. Definitions only.
use Rattle.std.specs.Prelude.{ℕ, ◌+◌, ◌-◌, ◌*◌, ◌/◌, ◌%◌, ◌^◌, Bool, cond, T, ltb, Float}
use Rattle.std.specs.Float.{nan, inf, fin, binary32}
use Rattle.std.specs.Float.Ieee.{round, fits}
use Rattle.floats.specs.Patterns.{hidden}
use Rattle.root.specs.Root.{units_of}
use Rattle.trig_rule.specs.Rule.{Is}
use Rattle.math.specs.Math.{deg_to_rad_of}

-- 360 degrees
abbrev pub full_turn : ℕ
full_turn = 360 * 2 ^ 149

-- "A rotation beyond 360 in size and finite is reduced exactly to what is left of full turns of 360, with its sign." What is left is an f32, so that `round`
-- rounds nothing (`left-exact` of proofs/Laws.antt). "Up to 360 in size, 360 itself included, nothing is touched."
unfoldable pub reduced_of : Float → Float
unfolding round
reduced_of nan = nan
reduced_of (inf s) = inf s
reduced_of (fin s m e) =
    let size = units_of binary32 (fin s m e) in
    cond (ltb full_turn size) (round binary32 s (size % full_turn) (2 ^ 149)) (fin s m e)

-- "right before the conversion to radians": phi of a rotation
unfoldable pub phi_of : Float → Float
unfolding reduced_of
phi_of degrees = deg_to_rad_of (reduced_of degrees)

-- y is what is left of x, with no word on how it is found: an f32 of x's sign whose size is the rest of x's
pub record Left (x y : Float) : Type 0 where
  pub held : T (fits binary32 y)
  pub minus : Bool
  pub size : ℕ
  pub given : Is x minus size
  pub left : Is y minus (size % full_turn)

-- the size of a normal f32, from its bits without the sign
abbrev pub units_at : ℕ → ℕ
units_at a = (a % hidden + hidden) * 2 ^ (a / hidden - 1)
