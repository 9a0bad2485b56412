-- `fitted_of` by its cases: radii that are grown, and radii that reach. Assumes nothing.
use mathlib.Core.Path.{◌≡◌}
use mathlib.Core.Bool.{true, false}
use lib.Ieee.{Float, binary32, of_bits, lt}
use Rattle.floats.specs.Floats.{one_f}
use Rattle.root.specs.Root.{sqrt_of}
use Rattle.math.specs.declared.points.Point.{Point}
use Rattle.math.specs.Math.{scale_of}
use Rattle.ellipse.specs.Ends.{lambda_of, fitted_of}

module _ (radii p : Point) (over : Float) (is-lambda : over ≡ lambda_of radii p) where
  pub grown : lt (of_bits binary32 0x3f80_0000) over ≡ true → fitted_of radii p ≡ scale_of radii (sqrt_of over)
  unfolding fitted_of one_f
  grown h = rw (← is-lambda, h)

  pub kept : lt (of_bits binary32 0x3f80_0000) over ≡ false → fitted_of radii p ≡ radii
  unfolding fitted_of one_f
  kept h = rw (← is-lambda, h)
