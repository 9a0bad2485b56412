-- `season_sheet::lines::put_rows` meets its contract. The loop keeps that the lines of the rows before k are put. Assumes nothing.
use Prim.Native.Nat.{◌+◌}
use Rattle.station_sections.proofs.LinesTo.{PutTo}
use Rattle.season_sheet.specs.Sheet.{row_line}
use Rattle.season_sheet.proofs.lines.put_rows.Given as goal

abbrev pub invariant-loop-k : goal.invariant-loop-k
invariant-loop-k l = PutTo (λ i. row_line l.counts (l.from + i)) 40 l.k l.start l.initial.out l.out l.at
