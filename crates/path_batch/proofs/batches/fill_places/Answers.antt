-- `path_batch::batches::fill_places` meets its contract. The loop keeps what is filled up to its place, where the cursor stands, `Looking`, and that the marks are those of the
-- path; the segments are those that `fill_segments` has found; the measure is what is left of the progresses. Assumes nothing.
use Prim.Native.Nat.{ℕ, ◌<◌}
use mathlib.Core.Path.{◌≡◌, refl, sym, ap, ◌∙◌, subst}
use native.Mathlib.Omega.{arith}
use lib.ListN.{length, take, get_or}
use lib.Seq.{take_all}
use lib.Ieee.{Float, nan}
use mathlib.Core.List.{List}
use Rattle.answers.specs.Report.{written}
use Rattle.table.specs.declared.quantities.Progress.{Progress}
use Rattle.table.specs.Spots.{spot_of}
use Rattle.flight.specs.Flights.{segment_given}
use Rattle.path_stored.specs.Near.{Known}
use Rattle.path_stored.specs.Paths.{held}
use Rattle.path_place.specs.Cursors.{cursor_of}
use Rattle.path_place.specs.Places.{raw_within}
use Rattle.path_place.proofs.Standing.{some-path, standing, place_is}
use Rattle.path_marks.specs.Marks.{Leap}
use Rattle.path_query.specs.Flights.{flight_of}
use Rattle.path_query.proofs.Seats.{a-flight, some-place}
use Rattle.path_batch.specs.Batches.{each, raws_for, found_for}
use Rattle.path_batch.proofs.Filling.{looking-first, looking-next, among, looking-leaps, each-size, each_next, segment-found, each-filled, each-equal, segment-there, raw-there}
use Rattle.path_batch.proofs.batches.fill_places.Goals as goal

-- ---- the answers
pub fill_segments-requires : goal.fill_segments-requires
fill_segments-requires c =
    record {
      path = some-path (some-place (a-flight c.args.path.stored c.requires.some));
      few = let one = c.args.path.stored.one in let most = c.args.path.stored.few in omega arith;
      segments_room = c.requires.segments_room;
    }

pub unset-marks-requires : goal.unset-marks-requires
unset-marks-requires c = c.args.path.stored.few

pub loop-i-init : goal.loop-i-init
unfolding each
loop-i-init c =
    (looking-first c.first_cursor-at.ensures c.requires.some, refl, c.unset-marks.ensures)

pub bounds-segments-i : goal.bounds-segments-i
bounds-segments-i c =
    let found_segments : length (written (found_for c.args.path.buffers.lengths.now c.args.progresses.now) c.args.segments.now) ≡ length c.args.segments.now = each-filled (λ p.
    (spot_of c.args.path.buffers.lengths.now p).segment) c.args.progresses.now c.args.segments.now c.requires.segments_room in
    let more : c.loop-i.i < length c.args.progresses.now = omega (arith, c.loop-i-test.true) in
    omega (arith, more, ap length c.fill_segments.ensures, found_segments, c.requires.segments_room)

pub along-local-requires : goal.along-local-requires
along-local-requires c =
    let more : c.loop-i.i < length c.args.progresses.now = omega (arith, c.loop-i-test.true) in
    let segment_is = segment-found c.args.path.buffers.lengths.now c.args.progresses.now _ _ c.loop-i.i more c.fill_segments.ensures c.wide-segment.ensures in
    record { sound_path = some-path (some-place (a-flight c.args.path.stored c.requires.some)); segment_value = segment_is }

pub raw_within-raw-requires : goal.raw_within-raw-requires
raw_within-raw-requires c =
    let more : c.loop-i.i < length c.args.progresses.now = omega (arith, c.loop-i-test.true) in
    let segment_is = segment-found c.args.path.buffers.lengths.now c.args.progresses.now _ _ c.loop-i.i more c.fill_segments.ensures c.wide-segment.ensures in
    let within : c.wide-segment.result < length c.args.path.buffers.kinds.now = among (a-flight c.args.path.stored c.requires.some) c.loop-i.invariant.0 (get_or c.args.progresses.now c.loop-i.i nan) segment_is in
    let landed = subst (λ (kinds : List ℕ). c.walked-here.result ≡ cursor_of kinds c.wide-segment.result) c.loop-i.invariant.2 c.walked-here.ensures.there in
    standing (some-place (a-flight c.args.path.stored c.requires.some)) landed within

pub bounds-raws-i : goal.bounds-raws-i
bounds-raws-i c =
    let raw_of : Float → Float = λ p. (flight_of (held c.args.path.buffers) p).raw.value in
    let raws_size : length c.loop-i.raws ≡ length c.args.raws.now = ap length c.loop-i.invariant.1 ∙ each-size raw_of c.args.progresses.now c.args.raws.now c.loop-i.i c.loop-i.invariant.0.upto c.requires.raws_room in
    let more : c.loop-i.i < length c.args.progresses.now = omega (arith, c.loop-i-test.true) in
    omega (arith, more, raws_size, c.requires.raws_room)

pub walked-here-requires : goal.walked-here-requires
walked-here-requires c =
    let more : c.loop-i.i < length c.args.progresses.now = omega (arith, c.loop-i-test.true) in
    let segment_is = segment-found c.args.path.buffers.lengths.now c.args.progresses.now _ _ c.loop-i.i more c.fill_segments.ensures c.wide-segment.ensures in
    record {
      leap =
          subst (λ (kinds : List ℕ). Leap kinds c.loop-i.at c.wide-segment.result) (sym c.loop-i.invariant.2)
          (looking-leaps (a-flight c.args.path.stored c.requires.some) c.loop-i.invariant.0 (get_or c.args.progresses.now c.loop-i.i nan) segment_is);
      known = subst Known (sym c.loop-i.invariant.2) c.args.path.stored.known;
    }

pub loop-i-preserved : goal.loop-i-preserved
loop-i-preserved c =
    let p = get_or c.args.progresses.now c.loop-i.i nan in
    let more : c.loop-i.i < length c.args.progresses.now = omega (arith, c.loop-i-test.true) in
    let segment_is = segment-found c.args.path.buffers.lengths.now c.args.progresses.now _ _ c.loop-i.i more c.fill_segments.ensures c.wide-segment.ensures in
    let within : c.wide-segment.result < length c.args.path.buffers.kinds.now = among (a-flight c.args.path.stored c.requires.some) c.loop-i.invariant.0 (get_or c.args.progresses.now c.loop-i.i nan) segment_is in
    let landed = subst (λ (kinds : List ℕ). c.walked-here.result ≡ cursor_of kinds c.wide-segment.result) c.loop-i.invariant.2 c.walked-here.ensures.there in
    let landed_there : c.walked-here.result ≡ cursor_of c.args.path.buffers.kinds.now (spot_of c.args.path.buffers.lengths.now p).segment = landed ∙ ap (cursor_of c.args.path.buffers.kinds.now) segment_is in
    let along_is : c.along-local.result.value ≡ (spot_of c.args.path.buffers.lengths.now p).progress.value = ap (λ (local : Progress). local.value) c.along-local.ensures in
    let path = held c.args.path.buffers in
    let raw_of : Float → Float = λ x. (flight_of path x).raw.value in
    let value = c.raw_within-raw.ensures ∙ ap (raw_within c.args.path.buffers.kinds.now c.args.path.buffers.tables.now c.walked-here.result.segment) along_is in
    let pair = place_is c.args.path.buffers.kinds.now c.args.path.buffers.tables.now c.args.path.buffers.lengths.now p (spot_of c.args.path.buffers.lengths.now p) c.walked-here.result c.raw_within-raw.result refl landed_there value in (
      looking-next c.walked-here.result c.wide-segment.result landed within more,
      each_next raw_of c.args.progresses.now _ c.loop-i.raws c.loop-i.i _ more c.requires.raws_room c.loop-i.invariant.1
          (c.tidy.ensures ∙ c.number_of.ensures ∙ raw-there path p c.requires.some pair),
      c.walked-here.ensures.marks ∙ c.loop-i.invariant.2,
    )

pub shape_of-segments : goal.shape_of-segments
shape_of-segments c =
    let found_segments : length (written (found_for c.args.path.buffers.lengths.now c.args.progresses.now) c.args.segments.now) ≡ length c.args.segments.now = each-filled (λ p.
    (spot_of c.args.path.buffers.lengths.now p).segment) c.args.progresses.now c.args.segments.now c.requires.segments_room in
    ap length c.fill_segments.ensures ∙ found_segments

pub shape_of-raws : goal.shape_of-raws
shape_of-raws c =
    let raw_of : Float → Float = λ p. (flight_of (held c.args.path.buffers) p).raw.value in
    let raws_size : length c.loop-i.raws ≡ length c.args.raws.now = ap length c.loop-i.invariant.1 ∙ each-size raw_of c.args.progresses.now c.args.raws.now c.loop-i.i c.loop-i.invariant.0.upto c.requires.raws_room in
    raws_size

pub returns : goal.returns
returns c =
    let all : take c.loop-i.i c.args.progresses.now ≡ c.args.progresses.now = take_all c.loop-i.i c.args.progresses.now (omega arith) in
    record {
      segments_are =
          c.fill_segments.ensures
          ∙ ap (λ (xs : List _). written xs c.args.segments.now)
          (each-equal (λ p. (spot_of c.args.path.buffers.lengths.now p).segment) (λ p. segment_given (flight_of (held c.args.path.buffers) p).segment)
          (λ p. segment-there (held c.args.path.buffers) p c.requires.some refl) c.args.progresses.now);
      raws_are = c.loop-i.invariant.1 ∙ ap (λ (ps : List Float). written (raws_for (held c.args.path.buffers) ps) c.args.raws.now) all;
    }
