-- `kihavute_cubic_to` meets its contract: the answer's length is judged first, then the entry's own promise is reported. Assumes nothing.
use Rattle.kihavute_appending.proofs.AppendingGiven.{not-appended, appends-reported}
use Rattle.kihavute_appending.proofs.appending.kihavute_cubic_to.Goals as goal

pub returns-then-answer-lt8 : goal.returns-then-answer-lt8
returns-then-answer-lt8 c = not-appended _ _ _ _ _ _ c.if-answer-lt8.true

pub returns : goal.returns
returns c =
    appends-reported _ _ _ _ c.if-answer-lt8.false _ _ c.cubic_to-appended.ensures c.give_appended.ensures
