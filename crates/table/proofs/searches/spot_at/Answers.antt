-- `table::searches::spot_at` meets its contract: each way out rewrites with the tests that led there. Past both tests the running lengths enclose the target, so the segment is one of
-- the path's. Assumes nothing.
use borrow.Author.Rules.{rules}
use Rattle.floats.specs.Floats.{zero_f}
use Rattle.floats.proofs.Tests.{failed}
use Rattle.table.proofs.Before.{path-total}
use Rattle.table.proofs.Enclosure.{Within, path-within}
use Rattle.table.proofs.searches.spot_at.Goals as goal

pub length_before-start-requires : goal.length_before-start-requires
unfolding zero_f
length_before-start-requires c = let w = (let found_here : Within c.args.lengths.now c.args.target c.first_from-segment.result = rw c.first_from-segment.ensures
    (path-within c.args.lengths.now c.args.target c.requires.sound_path.sound c.requires.t (failed c.if-target.false)
    (failed (rw (path-total c.args.lengths.now c.requires.sound_path.some) at c.if-target-total.false))) in found_here) in search rules

pub offset_bounds-lengths-segment : goal.offset_bounds-lengths-segment
unfolding zero_f
offset_bounds-lengths-segment c = let w = (let found_here : Within c.args.lengths.now c.args.target c.first_from-segment.result = rw c.first_from-segment.ensures
    (path-within c.args.lengths.now c.args.target c.requires.sound_path.sound c.requires.t (failed c.if-target.false)
    (failed (rw (path-total c.args.lengths.now c.requires.sound_path.some) at c.if-target-total.false))) in found_here) in search rules

pub bounds-lengths-segment : goal.bounds-lengths-segment
unfolding zero_f
bounds-lengths-segment c = let w = (let found_here : Within c.args.lengths.now c.args.target c.first_from-segment.result = rw c.first_from-segment.ensures
    (path-within c.args.lengths.now c.args.target c.requires.sound_path.sound c.requires.t (failed c.if-target.false)
    (failed (rw (path-total c.args.lengths.now c.requires.sound_path.some) at c.if-target-total.false))) in found_here) in search rules
