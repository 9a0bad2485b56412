-- `station_lines::lines::put_found` meets its contract. Assumes nothing.
use mathlib.Core.Path.{refl}
use native.Mathlib.Omega.{arith}
use Rattle.station_lines.proofs.Putting.{within-as, within-then, one_byte}
use Rattle.station_lines.specs.Lines.{segment_field}
use Rattle.station_lines.proofs.lines.put_found.Goals as goal

pub put_small-requires : goal.put_small-requires
put_small-requires c = (rw c.in-Some.is at c.requires.0, omega arith)

pub returns-in-Some : goal.returns-in-Some
unfolding segment_field
returns-in-Some c =
    rw c.in-Some.is (within-as 4 _ (within-then (one_byte c.put_byte-past_space.ensures) c.put_small.ensures).put refl (omega arith))

pub returns-in-None : goal.returns-in-None
unfolding segment_field
returns-in-None c =
    rw c.in-None.is (within-as 4 _ (within-then (one_byte c.put_byte-past_space.ensures) (one_byte c.put_byte.ensures)).put refl (omega arith))
