-- `path_batch::batches::fill_flights` meets its contract. The loop keeps what is filled up to its place, where the cursor stands, `Looking`, and that the marks are those of the
-- path; the segments are those that `fill_segments` has found. Assumes nothing.
use mathlib.Core.Path.{◌≡◌}
use lib.ListN.{take}
use Rattle.answers.specs.Report.{written}
use Rattle.path_stored.specs.Paths.{held}
use Rattle.path_batch.specs.Batches.{raws_for, numbers_for}
use Rattle.path_batch.proofs.Filling.{Looking}
use Rattle.path_batch.proofs.batches.fill_flights.Given as goal

abbrev pub invariant-loop-k : goal.invariant-loop-k
invariant-loop-k l =
    let b = held l.fn.path.buffers in
    Looking b.kinds l.progresses l.at l.k × (l.raws ≡ written (raws_for b (take l.k l.progresses)) l.initial.raws) × (l.marks ≡ b.kinds)
    × (l.out ≡ written (numbers_for b (take l.k l.progresses)) l.initial.out)
