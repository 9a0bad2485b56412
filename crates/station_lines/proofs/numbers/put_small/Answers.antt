-- `station_lines::numbers::put_small` meets its contract. Assumes nothing.
use native.Mathlib.Omega.{arith}
use Rattle.station_lines.proofs.Digits.{decimal-short}
use Rattle.station_lines.proofs.numbers.put_small.Goals as goal

pub put_decimal-requires : goal.put_decimal-requires
put_decimal-requires c = omega (arith, decimal-short 2 c.args.value (omega arith))

pub returns : goal.returns
returns c = record { put = c.put_decimal.ensures; within = omega (arith, c.put_decimal.ensures.past, decimal-short 2 c.args.value (omega arith)) }
