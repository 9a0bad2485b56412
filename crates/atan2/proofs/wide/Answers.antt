-- What is finite is no NaN, and has bits below an infinity's. Assumes nothing.
use borrow.Author.Tests.{ltb-true}
use mathlib.Core.Path.{◌≡◌, refl, sym, subst, ◌∙◌}
use mathlib.Core.Bool.{true, not}
use lib.Dec.{T}
use lib.Ieee.{Float, nan, inf, fin, binary64, fits, is_nan}
use lib.Ieee.Fits.{and_i, fits_widens}
use lib.Ieee.Scale.{finite}
use Rattle.floats.specs.Patterns.{wide_infinity_bits}
use Rattle.atan2_rule.specs.Steps.{plain}
use Rattle.atan2_rule.proofs.Whole.{bits-finite}
use Rattle.atan2.proofs.wide.Goals as goal

no_nan : (x : Float) → finite x ≡ true → T (not (is_nan x))
unfolding is_nan
no_nan nan h = subst T (sym h) tt
no_nan (inf s) h = tt
no_nan (fin s m e) h = tt

pub float_to_float-result : goal.float_to_float-result
float_to_float-result c = and_i (fits binary64 c.args.x) (not (is_nan c.args.x)) (fits_widens c.args.x c.row_known-1.given) (no_nan c.args.x c.requires)

pub float_to_bits-result : goal.float_to_bits-result
float_to_bits-result c = no_nan _ c.requires

pub returns : goal.returns
returns c = (refl, ltb-true (plain c.args.x) wide_infinity_bits (bits-finite c.args.x c.row_known-1.given ∙ c.requires))
