-- A short answer leaves all as it was; any other gives what the entry below gave. Assumes nothing.
use borrow.Author.Rules.{rules}
use Rattle.kihavute_paths.proofs.Putting.{put-short, put-evaluated}
use Rattle.kihavute_paths.proofs.morphs.kihavute_evaluate.Goals as goal

pub returns-then-answer-lt8 : goal.returns-then-answer-lt8
returns-then-answer-lt8 c = put-short _ _ _ c.if-answer-lt8.true

pub returns : goal.returns
returns c =
    put-evaluated c.args.answer.now _ _ c.if-answer-lt8.false _ _ _ c.args.out.now _ _ c.evaluate.ensures c.give_count.ensures
