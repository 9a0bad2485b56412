-- Each test picks a case of the definition. Assumes nothing.
use native.Mathlib.Omega.{arith}
use Rattle.atan2.proofs.Numbers.{no-nan-bits}
use Rattle.atan2.proofs.axis.Goals as goal

pub float_from_bits-result : goal.float_from_bits-result
float_from_bits-result c = no-nan-bits _ (omega arith)
