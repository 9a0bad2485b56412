-- `svg::reading::give` meets its contract: the room is judged, then the three lists are copied. Assumes nothing.
use Rattle.svg.proofs.Answering.{give-no-letters, give-no-numbers, give-no-offsets, give_all}
use Rattle.svg.proofs.reading.give.Goals as goal
use Rattle.svg.proofs.reading.give.Goals.{then-letters-counts-via-then-letters-counts, then-letters-counts-via-else-letters-counts+then-numbers-counts, then-letters-counts-via-else-letters-counts+else-numbers-counts+then-offsets-marks}

pub returns-then-letters-counts : goal.returns-then-letters-counts
returns-then-letters-counts c =
    elim c.then-letters-counts.branch [
      | then-letters-counts-via-then-letters-counts w ↦ rw c.no_room.ensures (give-no-letters _ _ w.if-letters-counts.true)
      | then-letters-counts-via-else-letters-counts+then-numbers-counts w ↦ rw c.no_room.ensures (give-no-numbers _ _ w.if-letters-counts.false w.if-numbers-counts.true)
      | then-letters-counts-via-else-letters-counts+else-numbers-counts+then-offsets-marks w ↦
          rw c.no_room.ensures (give-no-offsets _ _ w.if-letters-counts.false w.if-numbers-counts.false w.if-offsets-marks.true)
    ]

pub returns : goal.returns
returns c =
    give_all _ _ _ c.if-letters-counts.false c.if-numbers-counts.false c.if-offsets-marks.false c.put_first.ensures
    c.put_first-2.ensures c.put_first-3.ensures
