-- `path_batch::batches::fill_segments` meets its contract. The loop keeps what is filled up to its place. Assumes nothing.
use mathlib.Core.Path.{◌≡◌}
use lib.ListN.{take}
use Rattle.answers.specs.Report.{written}
use Rattle.path_batch.specs.Batches.{found_for}
use Rattle.path_batch.proofs.batches.fill_segments.Given as goal

abbrev pub invariant-loop-i : goal.invariant-loop-i
invariant-loop-i l = l.segments ≡ written (found_for l.lengths (take l.i l.progresses)) l.initial.segments
