-- `rotation_deg_of` by its cases: a tangent of two zeros, and any other. Assumes nothing.
use mathlib.Core.Path.{◌≡◌, refl, ap, ◌∙◌}
use mathlib.Core.Bool.{Bool, true, false, ◌&&◌, cond}
use lib.Ieee.{Float, binary32, of_bits, eq}
use Rattle.floats.specs.Floats.{zero_f}
use Rattle.atan2_rule.specs.Steps.{atan2_of}
use Rattle.math.specs.declared.points.Point.{Point}
use Rattle.math.specs.Math.{rad_to_deg_of}
use Rattle.angles.specs.Angles.{still, rotation_deg_of}

module _ (tangent : Point) where
  pub at_rest : eq tangent.x (of_bits binary32 0) ≡ true → eq tangent.y (of_bits binary32 0) ≡ true → rotation_deg_of tangent ≡ of_bits binary32 0
  unfolding rotation_deg_of zero_f
  at_rest x y = rw (x, y)

  -- one coordinate that is not zero is a direction
  pub moving-x : eq tangent.x (of_bits binary32 0) ≡ false → rotation_deg_of tangent ≡ rad_to_deg_of (atan2_of tangent.y tangent.x)
  unfolding rotation_deg_of
  moving-x x = rw x

  pub moving-y :
      eq tangent.x (of_bits binary32 0) ≡ true
      → eq tangent.y (of_bits binary32 0) ≡ false
      → rotation_deg_of tangent ≡ rad_to_deg_of (atan2_of tangent.y tangent.x)
  unfolding rotation_deg_of
  moving-y x y = rw (x, y)
