-- The loop keeps that the lines of the stations before `number` are put. Assumes nothing.
use Rattle.path_stored.specs.Paths.{held}
use Rattle.station_sections.specs.Sections.{station_of}
use Rattle.station_sections.proofs.LinesTo.{PutTo}
use Rattle.station_sections.proofs.putting.put_stations.Given as goal

abbrev pub invariant-loop-number : goal.invariant-loop-number
invariant-loop-number l = PutTo (λ k. station_of (held l.path.buffers) l.count k) 44 l.number l.from l.initial.out l.out l.at
