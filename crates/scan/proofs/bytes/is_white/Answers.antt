-- `scan::is_white` meets its contract: its test and its class agree on each of the 256 bytes, as antt computes. Assumes nothing.
use mathlib.Core.Bool.{◌||◌}
use lib.Dec.{eqb}
use Rattle.scan.specs.Bytes.{among, white_space}
use Rattle.scan.proofs.ByteLaws.{agree}
use Rattle.scan.proofs.bytes.is_white.Goals as goal

pub returns : goal.returns
unfolding among
returns c = agree (λ x. eqb x 32 || eqb x 9 || eqb x 13 || eqb x 10) (λ x. among x white_space) tt c.args.byte c.ranges.byte.fits
