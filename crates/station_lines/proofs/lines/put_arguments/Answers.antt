-- `station_lines::lines::put_arguments` meets its contract. Assumes nothing.
use native.Mathlib.Omega.{arith}
use mathlib.Core.Path.{refl}
use Rattle.station_lines.proofs.Putting.{put-none, within-as, within-then}
use Rattle.station_lines.proofs.Fields.{move-fields, line-fields, cubic-fields, close-fields}
use Rattle.station_lines.proofs.lines.put_arguments.Goals as goal

pub returns-in-MoveTo : goal.returns-in-MoveTo
returns-in-MoveTo c = rw c.in-MoveTo.is (within-as 63 _ c.put_point.ensures.put (move-fields _) (omega arith))

pub returns-in-LineTo : goal.returns-in-LineTo
returns-in-LineTo c = rw c.in-LineTo.is (within-as 63 _ c.put_point-in-LineTo.ensures.put (line-fields _) (omega arith))

pub returns-in-QuadTo : goal.returns-in-QuadTo
returns-in-QuadTo c = rw c.in-QuadTo.is (within-as 63 _ c.put_quad.ensures.put refl (omega arith))

pub returns-in-CubicTo : goal.returns-in-CubicTo
returns-in-CubicTo c =
    rw c.in-CubicTo.is (within-as 63 _ (within-then c.put_quad-past_controls.ensures c.put_point-in-CubicTo.ensures).put (cubic-fields _ _ _) (omega arith))

pub returns-in-ArcTo : goal.returns-in-ArcTo
returns-in-ArcTo c = rw c.in-ArcTo.is (within-as 63 _ c.put_arc.ensures.put refl (omega arith))

pub returns-in-ClosePath : goal.returns-in-ClosePath
returns-in-ClosePath c = rw c.in-ClosePath.is (within-as 63 _ (put-none _ _) close-fields (omega arith))
