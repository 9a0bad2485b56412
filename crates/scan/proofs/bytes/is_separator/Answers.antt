-- `scan::is_separator` meets its contract: its test and its class agree on each of the 256 bytes, as antt computes. Assumes nothing.
use mathlib.Core.Bool.{◌||◌}
use lib.Dec.{eqb}
use Rattle.scan.specs.Bytes.{among, separators}
use Rattle.scan.proofs.ByteLaws.{agree}
use Rattle.scan.proofs.bytes.is_separator.Goals as goal

pub returns : goal.returns
unfolding among
returns c = agree (λ x. eqb x 44 || eqb x 32 || eqb x 9 || eqb x 10 || eqb x 12 || eqb x 13) (λ x. among x separators) tt c.args.byte c.ranges.byte.fits
