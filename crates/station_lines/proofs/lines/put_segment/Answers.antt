-- `station_lines::lines::put_segment` meets its contract. Assumes nothing.
use mathlib.Core.Path.{refl}
use native.Mathlib.Omega.{arith}
use Rattle.station_lines.proofs.Putting.{within-as, within-then, one_byte}
use Rattle.station_lines.specs.Numbers.{number_field}
use Rattle.station_lines.specs.Lines.{segment_line}
use Rattle.station_lines.proofs.lines.put_segment.Goals as goal

pub returns : goal.returns
unfolding segment_line number_field
returns c =
    within-as 22 _
    (within-then c.put_kind-past_kind.ensures
    (within-then c.put_bits-past_length.ensures
    (within-then (one_byte c.put_byte-past_space.ensures) (within-then c.put_small-past_command.ensures (one_byte c.put_byte.ensures))))
    ).put
    refl
    (omega arith)
