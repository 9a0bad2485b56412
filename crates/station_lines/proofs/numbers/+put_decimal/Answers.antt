-- `station_lines::numbers::put_decimal` meets its contract: the digits before the last are put by the call, whose number falls. Assumes nothing.
use native.Mathlib.Omega.{arith}
use Rattle.station_lines.proofs.Putting.{put_then, put_same}
use Rattle.station_lines.proofs.Digits.{decimal-low, decimal-high, low-room, high-room}
use Rattle.station_lines.proofs.numbers.+put_decimal.Goals as goal

pub put_byte-requires : goal.put_byte-requires
put_byte-requires t c = low-room _ _ _ c.if-value-lt10.true c.requires

pub returns-then-value-lt10 : goal.returns-then-value-lt10
returns-then-value-lt10 t c = put_same c.put_byte.ensures _ (decimal-low _ c.if-value-lt10.true)

pub put_decimal-past-requires : goal.put_decimal-past-requires
put_decimal-past-requires t c =
    let h = high-room c.args.value c.args.at 69632 c.if-value-lt10.false (omega arith) c.requires in
    (omega arith, omega arith)

pub put_byte-requires-2 : goal.put_byte-requires-2
put_byte-requires-2 t c =
    let h = high-room c.args.value c.args.at 69632 c.if-value-lt10.false (omega arith) c.requires in
    omega (arith, c.put_decimal-past.ensures.past)

pub returns : goal.returns
returns t c =
    put_same (put_then c.put_decimal-past.ensures c.put_byte-2.ensures) _ (decimal-high _ c.if-value-lt10.false (omega arith))
