-- `kihavute_spline_table` meets its contract: a short answer is judged first, and what the entry below stored is given. Assumes nothing.
use borrow.Author.Rules.{rules}
use Rattle.kihavute_curves.proofs.SplinesGiven.{short-given, stored-given}
use Rattle.kihavute_curves.proofs.splines.kihavute_spline_table.Goals as goal

pub returns-then-answer-lt8 : goal.returns-then-answer-lt8
returns-then-answer-lt8 c = short-given _ _ _ c.if-answer-lt8.true

pub returns : goal.returns
returns c = stored-given _ _ _ c.if-answer-lt8.false _ _ _ _ c.spline_table.ensures c.give_count.ensures
