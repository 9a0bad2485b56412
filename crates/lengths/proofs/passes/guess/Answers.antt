-- A float without a sign has half its pattern below the constant, and what is left is no NaN's. Assumes nothing.
use native.Mathlib.Omega.{arith}
use denote.Floats.{passes}
use Rattle.decimal_rounding.proofs.Wide.{no_nan}
use Rattle.lengths.proofs.Upward.{upward-real, upward-bits}
use Rattle.lengths.proofs.passes.guess.Goals as goal

pub float_to_bits-z0 : goal.float_to_bits-z0
float_to_bits-z0 c = upward-real _ c.requires

pub overflow_sub-z0 : goal.overflow_sub-z0
overflow_sub-z0 c = omega (arith, upward-bits _ (passes _ c.well_formed.0.1) c.requires)

pub float_from_bits-z0 : goal.float_from_bits-z0
float_from_bits-z0 c = no_nan _ (omega (arith, upward-bits _ (passes _ c.well_formed.0.1) c.requires))
