-- `scan::starts_number` meets its contract: its test and its class agree on each of the 256 bytes, as antt computes. Assumes nothing.
use mathlib.Core.Bool.{◌&&◌, ◌||◌}
use lib.Dec.{leb, eqb}
use Rattle.scan.specs.Bytes.{among, number_starts}
use Rattle.scan.proofs.ByteLaws.{agree}
use Rattle.scan.proofs.bytes.starts_number.Goals as goal

pub returns : goal.returns
unfolding among
returns c = agree (λ x. leb 48 x && leb x 57 || eqb x 43 || eqb x 45 || eqb x 46) (λ x. among x number_starts) tt c.args.byte c.ranges.byte.fits
