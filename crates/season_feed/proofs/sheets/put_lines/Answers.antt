-- `season_feed::sheets::put_lines` meets its contract: the lines are counted first, and written where there is room. Assumes nothing.
use borrow.Author.Rules.{rules}
use Rattle.season_feed.proofs.Ends.{short-output, whole-output}
use Rattle.season_feed.proofs.sheets.put_lines.Goals as goal

pub returns-then-output-size : goal.returns-then-output-size
returns-then-output-size c =
    short-output _ _ c.put_sheet-size.ensures c.if-output-size.true

pub returns : goal.returns
returns c =
    whole-output _ _ c.put_sheet-size.ensures c.if-output-size.false c.put_sheet.ensures
