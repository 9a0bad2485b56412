-- `station_sections::putting::put_one` meets its contract: what is flown at the station's progress is put. Assumes nothing.
use native.Mathlib.Omega.{arith}
use Rattle.station_lines.proofs.Putting.{within-as}
use Rattle.station_sections.proofs.LinesTo.{segment-few, station-is}
use Rattle.station_sections.proofs.putting.put_one.Goals as goal

pub put_station-requires : goal.put_station-requires
put_station-requires c =
    (omega (arith, c.requires.0.most, c.requires.1), segment-few c.requires.0 _ c.flight-there.ensures, omega arith)

pub returns : goal.returns
returns c =
    within-as 44 _ c.put_station.ensures.put (station-is _ _ _ _ _ c.progress.ensures c.flight-there.ensures) c.put_station.ensures.within
