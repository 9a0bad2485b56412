-- `station_lines::numbers::put_number` meets its contract. Assumes nothing.
use native.Mathlib.Omega.{arith}
use Rattle.station_lines.specs.Numbers.{number_field}
use Rattle.station_lines.proofs.Putting.{put_then}
use Rattle.station_lines.proofs.Digits.{decimal-short}
use Rattle.station_lines.proofs.numbers.put_number.Goals as goal

pub put_decimal-requires : goal.put_decimal-requires
put_decimal-requires c = omega (arith, decimal-short 19 c.args.value (omega arith))

pub returns : goal.returns
unfolding number_field
returns c =
    let p = put_then c.put_byte-past_space.ensures c.put_decimal.ensures in
    record { put = p; within = omega (arith, p.past, decimal-short 19 c.args.value (omega arith)) }
