-- `path_build::passes::survey` meets its contract: the loop keeps that the commands up to its letter are passed and that the tally is of a calm site. Assumes nothing.
use Rattle.path_build.specs.Lists.{stored_list}
use Rattle.path_build.proofs.Along.{Surveying}
use Rattle.path_build.proofs.passes.survey.Given as goal

abbrev pub invariant-loop-letter : goal.invariant-loop-letter
invariant-loop-letter l = Surveying (stored_list l.letters l.numbers) l.tally l.letter-index l.at
