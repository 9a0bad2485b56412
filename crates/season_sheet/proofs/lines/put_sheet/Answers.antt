-- `season_sheet::put_sheet` meets its contract: section after section. Assumes nothing.
use mathlib.Core.Path.{refl}
use native.Mathlib.Omega.{arith}
use Rattle.station_lines.proofs.Putting.{within-as, within-then}
use Rattle.season_sheet.specs.Sheet.{lines_of}
use Rattle.season_sheet.proofs.lines.put_sheet.Goals as goal

pub returns : goal.returns
unfolding lines_of
returns c =
    let all =
    within-then c.put_header-past_readings.ensures
    (within-then c.put_section-past_refusals.ensures (within-then c.put_section-past_letters.ensures (within-then c.put_section-past_kinds.ensures c.put_lengths.ensures))) in
    within-as 3212 _ all.put refl (omega (arith, all.within))
