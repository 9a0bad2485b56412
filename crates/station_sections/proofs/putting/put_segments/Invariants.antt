-- The loop keeps that the lines of the segments before k are put. Assumes nothing.
use lib.Ieee.{nan}
use lib.ListN.{get_or}
use Rattle.station_lines.specs.Lines.{segment_line}
use Rattle.station_sections.proofs.LinesTo.{PutTo}
use Rattle.station_sections.proofs.putting.put_segments.Given as goal

abbrev pub invariant-loop-k : goal.invariant-loop-k
invariant-loop-k l = PutTo (λ k. segment_line (get_or l.kinds k 0) (get_or l.lengths k nan) (get_or l.commands k 0)) 22 l.k l.from l.initial.out l.out l.at
