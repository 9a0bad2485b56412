-- `path_batch::batches::segment_near` meets its contract: each way out is a case of `spot_of` (`segment-short` and so on), by the tests that led there. Assumes nothing.
use mathlib.Core.Path.{◌≡◌}
use mathlib.Core.Bool.{false}
use lib.Ieee.{le}
use Rattle.floats.specs.Floats.{zero_f, epsilon_f}
use Rattle.table.specs.Lookup.{target_of}
use Rattle.table.specs.Spots.{path_total}
use Rattle.table.proofs.Before.{path-total}
use Rattle.path_batch.proofs.Along.{segment-short, segment-low, segment-high, segment-within}
use Rattle.path_batch.proofs.batches.segment_near.Goals as goal

-- ---- the answers
pub returns-then-total : goal.returns-then-total
unfolding epsilon_f
returns-then-total c =
    segment-short _ _ (rw (path-total c.args.lengths.now c.requires.some) at c.if-total.true)

pub returns-then-target : goal.returns-then-target
unfolding zero_f target_of epsilon_f
returns-then-target c =
    let long : le (path_total c.args.lengths.now) epsilon_f ≡ false = rw (path-total c.args.lengths.now c.requires.some) at c.if-total.false in
    segment-low _ _ long (rw (c.clamp01.ensures, path-total c.args.lengths.now c.requires.some) at c.if-target.true)

pub returns-then-target-total : goal.returns-then-target-total
unfolding target_of epsilon_f zero_f
returns-then-target-total c =
    let low : le ((target_of (path_total c.args.lengths.now) c.args.progress.value)) zero_f ≡ false = rw (c.clamp01.ensures, path-total c.args.lengths.now c.requires.some) at c.if-target.false in
    let long : le (path_total c.args.lengths.now) epsilon_f ≡ false = rw (path-total c.args.lengths.now c.requires.some) at c.if-total.false in
    segment-high _ _ long low (rw (c.clamp01.ensures, path-total c.args.lengths.now c.requires.some) at c.if-target-total.true)

pub first_from-requires : goal.first_from-requires
first_from-requires c = c.requires.sound

pub returns : goal.returns
unfolding target_of epsilon_f zero_f
returns c =
    let low : le ((target_of (path_total c.args.lengths.now) c.args.progress.value)) zero_f ≡ false = rw (c.clamp01.ensures, path-total c.args.lengths.now c.requires.some) at c.if-target.false in
    let long : le (path_total c.args.lengths.now) epsilon_f ≡ false = rw (path-total c.args.lengths.now c.requires.some) at c.if-total.false in
    let total = path-total c.args.lengths.now c.requires.some in
    let high = rw (c.clamp01.ensures, total) at c.if-target-total.false in
    rw (c.first_from.ensures, c.clamp01.ensures, total) (segment-within _ _ long low high)
