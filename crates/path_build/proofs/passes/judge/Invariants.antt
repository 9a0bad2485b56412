-- `path_build::passes::judge` meets its contract: the loop keeps that the commands up to its letter are passed and what they draw is counted. Assumes nothing.
use Rattle.path_build.specs.Lists.{stored_list}
use Rattle.path_build.proofs.Along.{Measuring}
use Rattle.path_build.proofs.passes.judge.Given as goal

abbrev pub invariant-loop-letter_at : goal.invariant-loop-letter_at
invariant-loop-letter_at l = Measuring (stored_list l.letters l.numbers) l.site l.letter_at l.at
