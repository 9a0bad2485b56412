-- `scan::is_digit` meets its contract: its test and its class agree on each of the 256 bytes, as antt computes. Assumes nothing.
use mathlib.Core.Bool.{◌&&◌}
use lib.Dec.{leb}
use Rattle.scan.specs.Bytes.{among, digits}
use Rattle.scan.proofs.ByteLaws.{agree}
use Rattle.scan.proofs.bytes.is_digit.Goals as goal

pub returns : goal.returns
unfolding among
returns c = agree (λ x. leb 48 x && leb x 57) (λ x. among x digits) tt c.args.byte c.ranges.byte.fits
