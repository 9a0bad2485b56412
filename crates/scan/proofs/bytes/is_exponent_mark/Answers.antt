-- `scan::is_exponent_mark` meets its contract: its test and its class agree on each of the 256 bytes, as antt computes. Assumes nothing.
use mathlib.Core.Bool.{◌||◌}
use lib.Dec.{eqb}
use Rattle.scan.specs.Bytes.{among, exponent_marks}
use Rattle.scan.proofs.ByteLaws.{agree}
use Rattle.scan.proofs.bytes.is_exponent_mark.Goals as goal

pub returns : goal.returns
unfolding among
returns c = agree (λ x. eqb x 101 || eqb x 69) (λ x. among x exponent_marks) tt c.args.byte c.ranges.byte.fits
