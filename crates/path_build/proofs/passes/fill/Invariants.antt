-- `path_build::passes::fill` meets its contract: the loop keeps that the commands up to its letter are passed and what they draw is written. Assumes nothing.
use Rattle.path_stored.specs.Buffers.{buffers}
use Rattle.path_build.specs.Lists.{stored_list}
use Rattle.path_build.proofs.Along.{Storing}
use Rattle.path_build.proofs.passes.fill.Given as goal

abbrev pub invariant-loop-letter_at : goal.invariant-loop-letter_at
invariant-loop-letter_at l =
    Storing (stored_list l.letters l.numbers) l.site l.letter_at l.at (buffers l.initial.kinds l.initial.fields l.initial.tables l.initial.lengths l.initial.commands)
    (buffers l.kinds l.fields l.tables l.lengths l.commands)
