-- `path_batch::batches::fill_segments` meets its contract. The loop keeps what is filled up to its place; the measure is what is left of the progresses. Assumes nothing.
use Prim.Native.Nat.{◌<◌}
use mathlib.Core.Path.{◌≡◌, refl, ap, ◌∙◌}
use mathlib.Core.List.{List}
use native.Mathlib.Omega.{arith}
use lib.ListN.{length, take, get_or}
use lib.Seq.{take_all}
use lib.Ieee.{Float, nan}
use Rattle.answers.specs.Report.{written}
use Rattle.table.specs.Spots.{spot_of}
use Rattle.path_place.proofs.Standing.{spot-inside}
use Rattle.path_batch.specs.Batches.{each, found_for}
use Rattle.path_batch.proofs.Filling.{each-size, each_next}
use Rattle.path_batch.proofs.batches.fill_segments.Goals as goal

-- ---- the answers
pub loop-i-init : goal.loop-i-init
unfolding each
loop-i-init c = refl

pub segment_near-segment-requires : goal.segment_near-segment-requires
segment_near-segment-requires c = c.requires.path

pub overflow_cast-segments : goal.overflow_cast-segments
overflow_cast-segments c =
    let p = get_or c.args.progresses.now c.loop-i.i nan in
    record { fits = omega (arith, c.segment_near-segment.ensures, spot-inside c.args.lengths.now c.requires.path p) }

pub bounds-segments-i : goal.bounds-segments-i
bounds-segments-i c =
    let segments_size : length c.loop-i.segments ≡ length c.args.segments.now = ap length c.loop-i.invariant
    ∙ each-size (λ p. (spot_of c.args.lengths.now p).segment) c.args.progresses.now c.args.segments.now c.loop-i.i (omega arith) c.requires.segments_room in
    let more : c.loop-i.i < length c.args.progresses.now = omega (arith, c.loop-i-test.true) in
    omega (arith, more, segments_size, c.requires.segments_room)

pub loop-i-preserved : goal.loop-i-preserved
loop-i-preserved c =
    let more : c.loop-i.i < length c.args.progresses.now = omega (arith, c.loop-i-test.true) in
    each_next (λ p. (spot_of c.args.lengths.now p).segment) c.args.progresses.now c.args.segments.now c.loop-i.segments c.loop-i.i _ more c.requires.segments_room c.loop-i.invariant c.segment_near-segment.ensures

pub shape_of-segments : goal.shape_of-segments
shape_of-segments c =
    let segments_size : length c.loop-i.segments ≡ length c.args.segments.now = ap length c.loop-i.invariant
    ∙ each-size (λ p. (spot_of c.args.lengths.now p).segment) c.args.progresses.now c.args.segments.now c.loop-i.i (omega arith) c.requires.segments_room in
    segments_size

pub returns : goal.returns
returns c =
    let all : take c.loop-i.i c.args.progresses.now ≡ c.args.progresses.now = take_all c.loop-i.i c.args.progresses.now (omega arith) in
    c.loop-i.invariant ∙ ap (λ (ps : List Float). written (found_for c.args.lengths.now ps) c.args.segments.now) all
