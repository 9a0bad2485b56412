-- `station_lines::lines::put_values` meets its contract: each number is put just past the one before it, and takes at most 21 bytes. Assumes nothing.
use native.Mathlib.Omega.{arith}
use Rattle.station_lines.proofs.Putting.{put-none, within-as, within-then}
use Rattle.station_lines.proofs.Fields.{no-values, one_value, two-values, three-values, four-values, five-values}
use Rattle.station_lines.proofs.lines.put_values.Goals as goal

pub returns-in-Nothing : goal.returns-in-Nothing
returns-in-Nothing c = rw c.in-Nothing.is (within-as 105 _ (put-none _ _) no-values (omega arith))

pub returns-in-One : goal.returns-in-One
returns-in-One c =
    rw c.in-One.is
    (within-as 105 _ c.put_number.ensures.put (one_value _) (omega arith))

pub returns-in-Two : goal.returns-in-Two
returns-in-Two c =
    rw c.in-Two.is
    (within-as 105 _
    (within-then c.put_number-past_a.ensures c.put_number-in-Two.ensures).put
    (two-values _ _)
    (omega arith))

pub returns-in-Three : goal.returns-in-Three
returns-in-Three c =
    rw c.in-Three.is
    (within-as 105 _
    (within-then c.put_number-past_a-in-Three.ensures (within-then c.put_number-past_b.ensures c.put_number-in-Three.ensures)).put
    (three-values _ _ _)
    (omega arith))

pub returns-in-Four : goal.returns-in-Four
returns-in-Four c =
    rw c.in-Four.is
    (within-as 105 _
    (within-then c.put_number-past_a-in-Four.ensures (within-then c.put_number-past_b-in-Four.ensures (within-then c.put_number-past_c.ensures c.put_number-in-Four.ensures))).put
    (four-values _ _ _ _)
    (omega arith))

pub returns-in-Five : goal.returns-in-Five
returns-in-Five c =
    rw c.in-Five.is
    (within-as 105 _
    (within-then c.put_number-past_a-in-Five.ensures (within-then c.put_number-past_b-in-Five.ensures (within-then c.put_number-past_c-in-Five.ensures (within-then c.put_number-past_d.ensures c.put_number-in-Five.ensures)))).put
    (five-values _ _ _ _ _)
    (omega arith))
