-- `station_lines::lines::put_point` meets its contract. Assumes nothing.
use native.Mathlib.Omega.{arith}
use Rattle.station_lines.proofs.Putting.{within-as, within-then}
use Rattle.station_lines.proofs.Fields.{point-fields}
use Rattle.station_lines.proofs.lines.put_point.Goals as goal

pub returns : goal.returns
returns c = within-as 18 _ (within-then c.put_bits-past_x.ensures c.put_bits.ensures).put (point-fields _) (omega arith)
