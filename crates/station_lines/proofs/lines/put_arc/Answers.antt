-- `station_lines::lines::put_arc` meets its contract. Assumes nothing.
use native.Mathlib.Omega.{arith}
use Rattle.station_lines.proofs.Putting.{within-as, within-then}
use Rattle.station_lines.proofs.Fields.{arc-fields}
use Rattle.station_lines.proofs.lines.put_arc.Goals as goal

pub returns : goal.returns
returns c =
    within-as 63 _
    (within-then c.put_point-past_radii.ensures
    (within-then c.put_bits-past_rotation.ensures (within-then c.put_flag-past_large.ensures (within-then c.put_flag-past_sweep.ensures c.put_point.ensures)))
    ).put
    (arc-fields _ _ _ _ _) (omega arith)
