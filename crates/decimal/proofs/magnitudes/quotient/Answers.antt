-- `decimal::magnitudes::quotient` meets its contract: both numbers are f64, so that the division rounds their quotient. Assumes nothing.
use lib.Dec.{le→leb}
use lib.Ieee.{binary64, in_float}
use Rattle.decimal_digits.proofs.Values.{ten-pos}
use Rattle.decimal.proofs.Quotients.{div-at, whole}
use Rattle.decimal.proofs.magnitudes.quotient.Goals as goal

pub int_to_float-result : goal.int_to_float-result
unfolding in_float
int_to_float-result c = le→leb _ _ c.requires.0

pub returns : goal.returns
returns c = div-at binary64 _ _ _ _ (ten-pos _) (whole _ c.requires.0) c.ten.ensures
