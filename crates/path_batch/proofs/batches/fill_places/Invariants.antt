-- `path_batch::batches::fill_places` meets its contract. The loop keeps what is filled up to its place, where the cursor stands, `Looking`, and that the marks are those of the
-- path; the segments are those that `fill_segments` has found. Assumes nothing.
use mathlib.Core.Path.{◌≡◌}
use lib.ListN.{take}
use Rattle.answers.specs.Report.{written}
use Rattle.path_stored.specs.Paths.{held}
use Rattle.path_batch.specs.Batches.{raws_for}
use Rattle.path_batch.proofs.Filling.{Looking}
use Rattle.path_batch.proofs.batches.fill_places.Given as goal

abbrev pub invariant-loop-i : goal.invariant-loop-i
invariant-loop-i l =
    Looking l.kinds l.progresses l.at l.i × (l.raws ≡ written (raws_for (held l.fn.path.buffers) (take l.i l.progresses)) l.initial.raws) × (l.marks ≡ l.kinds)
