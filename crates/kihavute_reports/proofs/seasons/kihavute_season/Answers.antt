-- `kihavute_season` meets its contract: the answer's length is judged first, then the entry's own promise is reported. Assumes nothing.
use borrow.Author.Rules.{rules}
use Rattle.kihavute_reports.proofs.SeasonsGiven.{no-season, season-reported}
use Rattle.kihavute_reports.proofs.seasons.kihavute_season.Goals as goal

pub returns-then-answer-lt8 : goal.returns-then-answer-lt8
returns-then-answer-lt8 c = no-season _ _ _ c.if-answer-lt8.true

pub returns : goal.returns
returns c =
    season-reported _ _ _ _ c.if-answer-lt8.false c.sheet_of.ensures c.give_count.ensures
