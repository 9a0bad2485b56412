-- `legs::put_segment` meets its contract: in each arm the value that was matched is the arm's constructor. Assumes nothing.
use Rattle.legs.proofs.SegmentLegs.{of-line, of-quad, of-cubic, of-fallback, room-line, room-quad, room-cubic, room-arc, room-fallback}
use Rattle.legs.proofs.segments.put_segment.Goals as goal

pub put_line-requires : goal.put_line-requires
put_line-requires c = room-line _ _ _ _ (rw c.in-Line.is at c.requires)

pub put_legs-requires : goal.put_legs-requires
put_legs-requires c = room-quad _ _ _ _ _ _ (rw c.in-Quad.is at c.requires)

pub put_legs-requires-in-Cubic : goal.put_legs-requires-in-Cubic
put_legs-requires-in-Cubic c = room-cubic _ _ _ _ _ _ _ (rw c.in-Cubic.is at c.requires)

pub put_arc-requires : goal.put_arc-requires
put_arc-requires c = room-arc _ _ _ _ (rw c.in-Arc.is at c.requires)

pub put_line-requires-in-Fallback : goal.put_line-requires-in-Fallback
put_line-requires-in-Fallback c = room-fallback _ _ _ _ (rw c.in-Fallback.is at c.requires)

pub returns-in-Line : goal.returns-in-Line
returns-in-Line c = rw c.in-Line.is (of-line _ c.put_line.ensures)

pub returns-in-Quad : goal.returns-in-Quad
returns-in-Quad c = rw c.in-Quad.is (of-quad _ _ _ c.put_legs.ensures)

pub returns-in-Cubic : goal.returns-in-Cubic
returns-in-Cubic c = rw c.in-Cubic.is (of-cubic _ _ _ _ c.put_legs-in-Cubic.ensures)

pub returns-in-Arc : goal.returns-in-Arc
returns-in-Arc c = rw c.in-Arc.is c.put_arc.ensures

pub returns-in-Fallback : goal.returns-in-Fallback
returns-in-Fallback c = rw c.in-Fallback.is (of-fallback _ c.put_line-in-Fallback.ensures)
