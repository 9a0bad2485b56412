-- `kihavute_check_listing` meets its contract: the answer's length is judged first, then the entry's own promise is reported. Assumes nothing.
use borrow.Author.Rules.{rules}
use Rattle.kihavute_reports.proofs.ChecksGiven.{not-checked, check-reported}
use Rattle.kihavute_reports.proofs.checks.kihavute_check_listing.Goals as goal

pub returns-then-answer-lt8 : goal.returns-then-answer-lt8
returns-then-answer-lt8 c = not-checked _ _ _ _ c.if-answer-lt8.true

pub returns : goal.returns
returns c =
    check-reported _ _ _ _ _ c.if-answer-lt8.false c.check_listing-checked.ensures c.give_check.ensures
