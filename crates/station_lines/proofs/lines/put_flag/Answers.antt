-- `station_lines::lines::put_flag` meets its contract. Assumes nothing.
use Rattle.station_lines.proofs.lines.put_flag.Goals as goal

pub returns-then-flag : goal.returns-then-flag
returns-then-flag c = rw c.if-flag.true c.put_bits.ensures

pub returns : goal.returns
returns c = rw c.if-flag.false c.put_bits-2.ensures
