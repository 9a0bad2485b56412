-- `station_lines::lines::put_quad` meets its contract. Assumes nothing.
use native.Mathlib.Omega.{arith}
use Rattle.station_lines.proofs.Putting.{within-as, within-then}
use Rattle.station_lines.proofs.Fields.{quad-fields}
use Rattle.station_lines.proofs.lines.put_quad.Goals as goal

pub returns : goal.returns
returns c = within-as 36 _ (within-then c.put_point-past_control.ensures c.put_point.ensures).put (quad-fields _ _) (omega arith)
