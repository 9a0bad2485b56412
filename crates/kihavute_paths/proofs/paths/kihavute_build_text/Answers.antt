-- `kihavute_build_text` meets its contract: the answer's length is judged first, then the entry's own promise is reported. Assumes nothing.
use borrow.Author.Rules.{rules}
use Rattle.kihavute_paths.proofs.PathsGiven.{not-built, built-reported}
use Rattle.kihavute_paths.proofs.paths.kihavute_build_text.Goals as goal

pub returns-then-answer-lt8 : goal.returns-then-answer-lt8
returns-then-answer-lt8 c = not-built _ _ _ _ c.if-answer-lt8.true

pub returns : goal.returns
returns c =
    built-reported _ _ _ _ _ c.if-answer-lt8.false c.build_from_text-built.ensures c.give_sizes.ensures
