-- `scan::is_sign` meets its contract: its test and its class agree on each of the 256 bytes, as antt computes. Assumes nothing.
use mathlib.Core.Bool.{◌||◌}
use lib.Dec.{eqb}
use Rattle.scan.specs.Bytes.{among, signs}
use Rattle.scan.proofs.ByteLaws.{agree}
use Rattle.scan.proofs.bytes.is_sign.Goals as goal

pub returns : goal.returns
unfolding among
returns c = agree (λ x. eqb x 43 || eqb x 45) (λ x. among x signs) tt c.args.byte c.ranges.byte.fits
