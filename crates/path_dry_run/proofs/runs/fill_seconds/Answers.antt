-- `path_dry_run::runs::fill_seconds` meets its contract. The loop keeps the sum so far, the cursor at a segment of the path, and what is filled up to its place; the measure is what is left of
-- the speeds. Assumes nothing.
use Prim.Native.Nat.{ℕ, suc, ◌+◌, ◌≤◌, ◌<◌}
use mathlib.Core.Path.{◌≡◌, refl, sym, ap, ◌∙◌, subst}
use mathlib.Core.List.{List}
use native.Mathlib.Omega.{arith}
use lib.Dec.{T}
use lib.ListN.{length, take, get_or}
use lib.Seq.{take_all}
use lib.Ieee.{Float, nan}
use Rattle.answers.specs.Report.{written}
use Rattle.floats.specs.Kinds.{real}
use Rattle.floats.proofs.Fractions.{nonneg-real}
use Rattle.metres.specs.Metres.{metres_of}
use Rattle.metres.proofs.Quotients.{metres-held}
use Rattle.table.specs.Spots.{spot_toward}
use Rattle.path_stored.specs.Paths.{held}
use Rattle.path_place.proofs.Standing.{cursor-own, standing}
use Rattle.path_query.proofs.Seats.{a-flight, some-place}
use Rattle.path_batch.specs.Batches.{each}
use Rattle.path_batch.proofs.Filling.{each-size, each_next}
use Rattle.path_dry_run.specs.Seconds.{targets_of, segment_reached, raw_reached}
use Rattle.path_dry_run.specs.Ordered.{sum_of}
use Rattle.path_dry_run.proofs.Sums.{sum-next, sum-few, targets-length, target_is}
use Rattle.path_dry_run.proofs.Seconds.{segment-some, raw-some}
use Rattle.path_dry_run.proofs.runs.fill_seconds.Goals as goal

-- ---- the answers
pub loop-i-init : goal.loop-i-init
unfolding each sum_of
loop-i-init c =
    let own = cursor-own c.args.path.buffers.kinds.now 0 c.first_cursor-at.ensures in
    (refl, own.1, omega (arith, own.0, c.requires.some), refl, refl)

pub overflow_add-sum : goal.overflow_add-sum
overflow_add-sum c =
    let more : c.loop-i.i < length c.args.speeds.now = c.loop-i-test.true in
    let next : (c.loop-i.sum + get_or c.args.speeds.now c.loop-i.i 0) ≡ sum_of (take (suc c.loop-i.i) c.args.speeds.now) = ap (λ (s : ℕ). s + get_or c.args.speeds.now
    c.loop-i.i 0) c.loop-i.invariant.0 ∙ sym (sum-next c.args.speeds.now c.loop-i.i more) in
    let small : (c.loop-i.sum + get_or c.args.speeds.now c.loop-i.i 0) ≤ 3600000000 = omega (arith, next, sum-few c.requires.recorded (suc c.loop-i.i) more) in
    record { fits = omega (arith, small) }

pub reach-there-requires : goal.reach-there-requires
reach-there-requires c =
    let more : c.loop-i.i < length c.args.speeds.now = c.loop-i-test.true in
    let next : (c.loop-i.sum + get_or c.args.speeds.now c.loop-i.i 0) ≡ sum_of (take (suc c.loop-i.i) c.args.speeds.now) = ap (λ (s : ℕ). s + get_or c.args.speeds.now
    c.loop-i.i 0) c.loop-i.invariant.0 ∙ sym (sum-next c.args.speeds.now c.loop-i.i more) in
    let small : (c.loop-i.sum + get_or c.args.speeds.now c.loop-i.i 0) ≤ 3600000000 = omega (arith, next, sum-few c.requires.recorded (suc c.loop-i.i) more) in
    let n = (c.loop-i.sum + get_or c.args.speeds.now c.loop-i.i 0) in
    record {
      standing = standing (some-place (a-flight c.args.path.stored c.requires.some)) c.loop-i.invariant.1 c.loop-i.invariant.2;
      t = subst (λ (x : Float). T (real x)) (sym c.metres.ensures) (nonneg-real (metres_of n) (metres-held n (omega (arith, small))).nn);
    }

pub overflow_cast-segments : goal.overflow_cast-segments
overflow_cast-segments c =
    let stands : c.reach-there.result.at.segment ≡ (spot_toward c.args.path.buffers.lengths.now c.metres.result).segment = (cursor-own c.args.path.buffers.kinds.now _ c.reach-there.ensures.is).0 in
    let stands_inside : c.reach-there.result.at.segment < length c.args.path.buffers.kinds.now = omega (arith, stands, c.reach-there.ensures.inside) in
    record { fits = omega (arith, stands_inside, c.args.path.stored.few) }

pub bounds-segments-i : goal.bounds-segments-i
bounds-segments-i c =
    let count_is : length (targets_of c.args.speeds.now) ≡ length c.args.speeds.now = targets-length 0 c.args.speeds.now in
    let segments_size : length c.loop-i.segments ≡ length c.args.segments.now = ap length c.loop-i.invariant.3
    ∙ each-size (segment_reached (held c.args.path.buffers)) (targets_of c.args.speeds.now) c.args.segments.now c.loop-i.i (omega arith) (omega arith) in
    let more : c.loop-i.i < length c.args.speeds.now = c.loop-i-test.true in
    omega (arith, more, segments_size, c.requires.segments_room)

pub bounds-raws-i : goal.bounds-raws-i
bounds-raws-i c =
    let count_is : length (targets_of c.args.speeds.now) ≡ length c.args.speeds.now = targets-length 0 c.args.speeds.now in
    let raws_size : length c.loop-i.raws ≡ length c.args.raws.now = ap length c.loop-i.invariant.4
    ∙ each-size (raw_reached (held c.args.path.buffers)) (targets_of c.args.speeds.now) c.args.raws.now c.loop-i.i (omega arith) (omega arith) in
    let more : c.loop-i.i < length c.args.speeds.now = c.loop-i-test.true in
    omega (arith, more, raws_size, c.requires.raws_room)

pub loop-i-preserved : goal.loop-i-preserved
loop-i-preserved c =
    let path = held c.args.path.buffers in
    let more : c.loop-i.i < length c.args.speeds.now = c.loop-i-test.true in
    let next : (c.loop-i.sum + get_or c.args.speeds.now c.loop-i.i 0) ≡ sum_of (take (suc c.loop-i.i) c.args.speeds.now) = ap (λ (s : ℕ). s + get_or c.args.speeds.now
    c.loop-i.i 0) c.loop-i.invariant.0 ∙ sym (sum-next c.args.speeds.now c.loop-i.i more) in
    let some : 0 < length c.args.path.buffers.kinds.now = c.requires.some in
    let stands : c.reach-there.result.at.segment ≡ (spot_toward c.args.path.buffers.lengths.now c.metres.result).segment = (cursor-own c.args.path.buffers.kinds.now _ c.reach-there.ensures.is).0 in
    let stands_inside : c.reach-there.result.at.segment < length c.args.path.buffers.kinds.now = omega (arith, stands, c.reach-there.ensures.inside) in
    let count_is : length (targets_of c.args.speeds.now) ≡ length c.args.speeds.now = targets-length 0 c.args.speeds.now in
    let target_there : c.metres.result ≡ get_or (targets_of c.args.speeds.now) c.loop-i.i nan = c.metres.ensures ∙ ap metres_of next ∙ sym (target_is c.args.speeds.now c.loop-i.i more) in
    let segment_there : c.reach-there.result.at.segment ≡ segment_reached path (get_or (targets_of c.args.speeds.now) c.loop-i.i nan) = stands ∙ sym (segment-some path c.metres.result some) ∙ ap (segment_reached path) target_there in
    let raw_there : c.reach-there.result.raw.value ≡ raw_reached path (get_or (targets_of c.args.speeds.now) c.loop-i.i nan) = c.reach-there.ensures.there ∙ sym (raw-some path c.metres.result some) ∙ ap (raw_reached path) target_there in
    let one : suc c.loop-i.i ≡ c.loop-i.i + 1 = omega arith in (
      next ∙ ap (λ (k : ℕ). sum_of (take k c.args.speeds.now)) one,
      (cursor-own c.args.path.buffers.kinds.now _ c.reach-there.ensures.is).1,
      stands_inside,
      each_next (segment_reached path) (targets_of c.args.speeds.now) c.args.segments.now c.loop-i.segments c.loop-i.i _ (omega arith) (omega (arith, c.requires.segments_room)) c.loop-i.invariant.3 segment_there,
      each_next (raw_reached path) (targets_of c.args.speeds.now) c.args.raws.now c.loop-i.raws c.loop-i.i _ (omega arith) (omega (arith, c.requires.raws_room)) c.loop-i.invariant.4
          (c.tidy.ensures ∙ c.number_of.ensures ∙ raw_there),
    )

pub shape_of-segments : goal.shape_of-segments
shape_of-segments c =
    let count_is : length (targets_of c.args.speeds.now) ≡ length c.args.speeds.now = targets-length 0 c.args.speeds.now in
    let segments_size : length c.loop-i.segments ≡ length c.args.segments.now = ap length c.loop-i.invariant.3
    ∙ each-size (segment_reached (held c.args.path.buffers)) (targets_of c.args.speeds.now) c.args.segments.now c.loop-i.i (omega arith) (omega arith) in
    segments_size

pub shape_of-raws : goal.shape_of-raws
shape_of-raws c =
    let count_is : length (targets_of c.args.speeds.now) ≡ length c.args.speeds.now = targets-length 0 c.args.speeds.now in
    let raws_size : length c.loop-i.raws ≡ length c.args.raws.now = ap length c.loop-i.invariant.4
    ∙ each-size (raw_reached (held c.args.path.buffers)) (targets_of c.args.speeds.now) c.args.raws.now c.loop-i.i (omega arith) (omega arith) in
    raws_size

pub returns : goal.returns
returns c =
    let count_is : length (targets_of c.args.speeds.now) ≡ length c.args.speeds.now = targets-length 0 c.args.speeds.now in
    let all : take c.loop-i.i (targets_of c.args.speeds.now) ≡ targets_of c.args.speeds.now = take_all c.loop-i.i (targets_of c.args.speeds.now) (omega arith) in
    record {
      segments_are = c.loop-i.invariant.3 ∙ ap (λ (ts : List Float). written (each (segment_reached (held c.args.path.buffers)) ts) c.args.segments.now) all;
      raws_are = c.loop-i.invariant.4 ∙ ap (λ (ts : List Float). written (each (raw_reached (held c.args.path.buffers)) ts) c.args.raws.now) all;
    }
