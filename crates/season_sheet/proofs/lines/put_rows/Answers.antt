-- `season_sheet::lines::put_rows` meets its contract. The loop keeps that the lines of the rows before k are put. Assumes nothing.
use native.Mathlib.Omega.{arith}
use Rattle.station_sections.proofs.LinesTo.{to_none, to-length, to-more, to-all}
use Rattle.season_sheet.specs.Sheet.{row_lines}
use Rattle.season_sheet.proofs.Rows.{row-some, row-none}
use Rattle.season_sheet.proofs.lines.put_rows.Goals as goal
use Rattle.season_sheet.proofs.lines.put_rows.Goals.{then-count-ne0, else-count-ne0}

pub loop-k-init : goal.loop-k-init
loop-k-init c = to_none _ _ _ _

pub put_row-at-requires : goal.put_row-at-requires
put_row-at-requires c = (omega arith, omega arith, omega (arith, c.loop-k.invariant.within))

pub loop-k-preserved : goal.loop-k-preserved
loop-k-preserved c =
    elim c.if-count-ne0.branch [
      | then-count-ne0 w ↦ rw (w.out-is, w.at-is) (to-more _ 40 _ _ _ _ _ c.loop-k.invariant _ _ (row-some _ _ _ w.if-count-ne0.true w.put_row-at.ensures))
      | else-count-ne0 w ↦ rw (w.out-is, w.at-is) (to-more _ 40 _ _ _ _ _ c.loop-k.invariant _ _ (row-none _ _ _ _ w.if-count-ne0.false))
    ]

pub shape_of-out : goal.shape_of-out
shape_of-out c = to-length _ _ _ _ _ _ _ c.loop-k.invariant

pub returns : goal.returns
unfolding row_lines
returns c = to-all _ _ _ _ _ _ _ _ c.loop-k.invariant c.args.many (omega arith) (omega (arith, c.requires.1, c.requires.2))
