-- `station_lines::numbers::put_byte` meets its contract: past the buffer's end nothing is stored. Assumes nothing.
use Rattle.station_lines.proofs.Putting.{put-past}
use Rattle.station_lines.proofs.numbers.put_byte.Goals as goal

pub returns-then-out-at : goal.returns-then-out-at
returns-then-out-at c = put-past _ _ _ c.if-out-at.true
