-- `station_lines::lines::put_station` meets its contract. Assumes nothing.
use mathlib.Core.Path.{refl}
use native.Mathlib.Omega.{arith}
use Rattle.station_lines.proofs.Putting.{within-as, within-then, one_byte}
use Rattle.station_lines.specs.Lines.{station_line}
use Rattle.station_lines.proofs.lines.put_station.Goals as goal

pub returns : goal.returns
unfolding station_line
returns c =
    within-as 44 _
    (within-then c.put_small-past_number.ensures
    (within-then c.put_found-past_segment.ensures (within-then c.put_point-past_position.ensures (within-then c.put_point-past_tangent.ensures (one_byte c.put_byte.ensures))))
    ).put
    refl (omega arith)
