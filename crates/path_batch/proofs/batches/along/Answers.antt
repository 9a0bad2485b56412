-- `path_batch::batches::along` meets its contract: each way out is a case of `spot_of` (`along-short` and so on), by the tests that led there. Assumes nothing.
use borrow.Author.Rules.{rules}
use mathlib.Core.Path.{◌≡◌}
use mathlib.Core.Bool.{false}
use Prim.Native.Nat.{◌<◌}
use native.Mathlib.Omega.{arith}
use lib.ListN.{length}
use lib.Ieee.{le}
use Rattle.floats.specs.Floats.{zero_f, one_f, epsilon_f}
use Rattle.table.specs.Lookup.{target_of}
use Rattle.table.specs.Spots.{path_total}
use Rattle.table.proofs.Before.{path-total}
use Rattle.path_place.proofs.Standing.{spot-inside}
use Rattle.path_batch.proofs.Along.{along-short, along-low, along-high, along-within}
use Rattle.path_batch.proofs.batches.along.Goals as goal

-- ---- the answers
pub returns-then-total : goal.returns-then-total
unfolding epsilon_f one_f
returns-then-total c =
    along-short _ _ (rw (path-total c.args.lengths.now c.requires.sound_path.some) at c.if-total.true)

pub returns-then-target : goal.returns-then-target
unfolding zero_f target_of epsilon_f
returns-then-target c =
    let long : le (path_total c.args.lengths.now) epsilon_f ≡ false = rw (path-total c.args.lengths.now c.requires.sound_path.some) at c.if-total.false in
    along-low _ _ long (rw (c.clamp01.ensures, path-total c.args.lengths.now c.requires.sound_path.some) at c.if-target.true)

pub returns-then-target-total : goal.returns-then-target-total
unfolding one_f target_of epsilon_f zero_f
returns-then-target-total c =
    let low : le ((target_of (path_total c.args.lengths.now) c.args.progress.value)) zero_f ≡ false = rw (c.clamp01.ensures, path-total c.args.lengths.now c.requires.sound_path.some) at c.if-target.false in
    let long : le (path_total c.args.lengths.now) epsilon_f ≡ false = rw (path-total c.args.lengths.now c.requires.sound_path.some) at c.if-total.false in
    along-high _ _ long low (rw (c.clamp01.ensures, path-total c.args.lengths.now c.requires.sound_path.some) at c.if-target-total.true)

pub length_before-start-requires : goal.length_before-start-requires
length_before-start-requires c =
    let h = (let inside_here : c.args.segment < length c.args.lengths.now = let h = spot-inside c.args.lengths.now c.requires.sound_path c.args.progress.value in omega (arith, c.requires.segment_value) in inside_here) in search rules

pub offset_bounds-lengths-segment : goal.offset_bounds-lengths-segment
offset_bounds-lengths-segment c =
    let h = (let inside_here : c.args.segment < length c.args.lengths.now = let h = spot-inside c.args.lengths.now c.requires.sound_path c.args.progress.value in omega (arith, c.requires.segment_value) in inside_here) in search rules

pub bounds-lengths-segment : goal.bounds-lengths-segment
bounds-lengths-segment c =
    let h = (let inside_here : c.args.segment < length c.args.lengths.now = let h = spot-inside c.args.lengths.now c.requires.sound_path c.args.progress.value in omega (arith, c.requires.segment_value) in inside_here) in search rules

pub returns : goal.returns
unfolding target_of epsilon_f zero_f
returns c =
    let low : le ((target_of (path_total c.args.lengths.now) c.args.progress.value)) zero_f ≡ false = rw (c.clamp01.ensures, path-total c.args.lengths.now c.requires.sound_path.some) at c.if-target.false in
    let long : le (path_total c.args.lengths.now) epsilon_f ≡ false = rw (path-total c.args.lengths.now c.requires.sound_path.some) at c.if-total.false in
    let total = path-total c.args.lengths.now c.requires.sound_path.some in
    let high = rw (c.clamp01.ensures, total) at c.if-target-total.false in
    rw (c.share.ensures, c.length_before-start.ensures, c.clamp01.ensures, total) (along-within _ _ long low high _ c.requires.segment_value)
