-- `season_feed::sheets::sheet` meets its contract: what is written is the sheet of all bytes fed. Assumes nothing.
use borrow.Author.Rules.{rules}
use mathlib.Core.Path.{sym, ap, ◌∙◌}
use native.Mathlib.Omega.{arith}
use lib.ListN.{length}
use Rattle.season_plan.proofs.Marks.{marked-length, roomy-less}
use Rattle.season_feed.proofs.Tallies.{tally-rows, tally-roomy}
use Rattle.season_feed.proofs.Ends.{sheet-whole, sheet-cut, sheet-many}
use Rattle.season_feed.proofs.sheets.sheet.Goals as goal

pub put_lines-requires : goal.put_lines-requires
put_lines-requires c = tally-rows c.requires.stands.tally

pub returns-then-whole : goal.returns-then-whole
returns-then-whole c =
    sheet-whole (sym c.if-whole.true ∙ c.whole.ensures) c.put_lines.ensures

pub returns-then-season-eq17179869184 : goal.returns-then-season-eq17179869184
returns-then-season-eq17179869184 c = sheet-many (sym c.if-whole.false ∙ c.whole.ensures) c.if-season-eq17179869184.true

pub bump-requires : goal.bump-requires
bump-requires c =
    (omega (arith, tally-rows c.requires.stands.tally), roomy-less (tally-roomy c.requires.stands.tally) (omega arith))

pub put_lines-requires-2 : goal.put_lines-requires-2
put_lines-requires-2 c =
    ap length c.bump.ensures ∙ marked-length _ _ ∙ tally-rows c.requires.stands.tally

pub returns : goal.returns
returns c =
    sheet-cut (sym c.if-whole.false ∙ c.whole.ensures) c.if-season-eq17179869184.false c.bump.ensures c.put_lines-2.ensures
