-- The invariant: the entries of the row before i are stored (`Storing`). Assumes nothing.
use Rattle.spline_table.proofs.RowLaws.{row_step, storing-start, storing-more, storing-ends}
use Rattle.spline_table.proofs.rows.fill_row.Goals as goal

pub loop-i-init : goal.loop-i-init
loop-i-init c = storing-start c.requires.walking

pub loop-i-preserved : goal.loop-i-preserved
loop-i-preserved c =
    storing-more c.loop-i.invariant c.loop-i-test.true c.requires.whole c.requires.room _
    (row_step c.differences-row.ensures _ c.half_lengths-steps.ensures c.loop-i.i c.loop-i-test.true)

pub returns : goal.returns
returns c =
    let s = storing-ends c.loop-i.invariant c.loop-i-test.false in
    record { walked = record { upto = c.requires.whole; here = c.differences-row.ensures.next; sum = s.sum }; stored = s.entered }
