-- `path_dry_run::runs::fill_seconds` meets its contract. The loop keeps the sum so far, the cursor at a segment of the path, and what is filled up to its place. Assumes nothing.
use Prim.Native.Nat.{◌<◌}
use mathlib.Core.Path.{◌≡◌}
use lib.ListN.{length, take}
use Rattle.answers.specs.Report.{written}
use Rattle.path_stored.specs.Paths.{held}
use Rattle.path_place.specs.Cursors.{cursor_of}
use Rattle.path_batch.specs.Batches.{each}
use Rattle.path_dry_run.specs.Seconds.{targets_of, segment_reached, raw_reached}
use Rattle.path_dry_run.specs.Ordered.{sum_of}
use Rattle.path_dry_run.proofs.runs.fill_seconds.Given as goal

abbrev pub invariant-loop-i : goal.invariant-loop-i
invariant-loop-i l =
    let b = held l.fn.path.buffers in
    (l.sum ≡ sum_of (take l.i l.speeds))
    × (l.at ≡ cursor_of b.kinds l.at.segment)
    × (l.at.segment < length b.kinds)
    × (l.segments ≡ written (each (segment_reached b) (take l.i (targets_of l.speeds))) l.initial.segments)
    × (l.raws ≡ written (each (raw_reached b) (take l.i (targets_of l.speeds))) l.initial.raws)
