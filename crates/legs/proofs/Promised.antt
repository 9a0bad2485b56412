-- The promises of specs/Promises.antt: of a segment, of a path, and of what an accepted call leaves to its caller. Assumes nothing.
use Prim.Native.Nat.{ℕ, zero, suc, ◌+◌, ◌*◌, ◌<◌}
use mathlib.Core.Path.{◌≡◌, refl, sym, ap, ◌∙◌}
use mathlib.Core.Bool.{Bool, true, false, ◌||◌, true≢false}
use mathlib.Core.Logic.{◌⊎◌, inl, inr}
use mathlib.Core.List.{List, [], ◌∷◌, ◌++◌, append_assoc}
use native.Mathlib.Nat.{add-zero, suc-add, add-suc, le_of_suc-le-suc, not-suc-le-zero}
use native.Mathlib.Omega.{arith}
use lib.Ieee.{Float}
use lib.ListN.{length, take, drop, get_or}
use lib.Seq.{take-append-le, take_all, drop-append-add, drop-drop}
use Rattle.ellipse.specs.declared.ends.Arc.{Arc}
use Rattle.path_segment.specs.declared.segments.PathSegment.{PathSegment}
use Rattle.path_segment.specs.declared.segments.PathSegment.TheVariants as Segment
use Rattle.path_segment.specs.Segments.{width_of, segment_of}
use Rattle.path_stored.specs.Stored.{before, segment_in}
use Rattle.flat.specs.declared.curves.Curve.{Curve}
use Rattle.flat.specs.declared.pieces.Tally.{Tally}
use Rattle.flat.specs.Pieces.{pieces_of, tally_of}
use Rattle.flat.specs.Promises.{Leads}
use Rattle.flat.proofs.Laws.{pieces-lead, pieces-some, pieces-most, legs-lead, clear-near, set-far}
use Rattle.legs.specs.Segments.{arc_point, arc_legs, segment_legs, segment_tally}
use Rattle.legs.specs.Paths.{path_legs, path_tally}
use Rattle.legs.specs.Promises.{start_of, end_of, OfCurve, Counted, Judged, Flagged, SegmentFlown, PathFlown}
use Rattle.legs.proofs.SegmentLegs.{segment-length}
use Rattle.legs.proofs.Walks.{path-few, tally-more}

neither : (a b : Bool) → (a || b) ≡ false → (a ≡ false) × (b ≡ false)
neither false b h = (refl, h)
neither true b h = absurd (true≢false h)

either : (a b : Bool) → (a || b) ≡ true → (a ≡ true) ⊎ (b ≡ true)
either true b h = inl refl
either false b h = inr h

-- ---- a segment

-- an arc's points lead from each to the next
arc-lead : (shape : Arc) (i n : ℕ) (rest : List Float) → Leads (arc_point shape i) n (arc_legs shape i n ++ rest) (arc_point shape (i + n))
unfolding Leads arc_legs
arc-lead shape i zero rest = ap (arc_point shape) (sym (add-zero i))
arc-lead shape i (suc n) rest = (refl, rw (add-suc i n, ← suc-add i n) (arc-lead shape (suc i) n rest))

curve-count : (limit : Float) (curve : Curve) → OfCurve (tally_of limit 10 curve).legs
unfolding tally_of
curve-count limit curve = (pieces-some limit 10 curve, pieces-most limit curve)

curve-judged : (limit : Float) (curve : Curve) → Judged limit curve (tally_of limit 10 curve).far
unfolding tally_of
curve-judged limit curve = record { clear = clear-near limit (pieces_of limit 10 curve); set = set-far limit 10 curve }

module _ (limit : Float) where
  pub segment-counted : (segment : PathSegment) → Counted segment (segment_tally limit segment).legs
  unfolding Counted segment_tally
  segment-counted (Segment.Line line) = refl
  segment-counted (Segment.Quad start control end) = curve-count limit (Curve.Quad start control end)
  segment-counted (Segment.Cubic start control1 control2 end) = curve-count limit (Curve.Cubic start control1 control2 end)
  segment-counted (Segment.Arc shape) = refl
  segment-counted (Segment.Fallback shape) = refl

  pub segment-joined : (segment : PathSegment) (rest : List Float) → Leads (start_of segment) (segment_tally limit segment).legs (segment_legs limit segment ++ rest) (end_of segment)
  unfolding Leads start_of end_of segment_tally segment_legs tally_of arc_point
  segment-joined (Segment.Line line) rest = (refl, refl)
  segment-joined (Segment.Quad start control end) rest = let curve = Curve.Quad start control end in legs-lead start end (pieces_of limit 10 curve) rest (pieces-lead limit 10 curve)
  segment-joined (Segment.Cubic start control1 control2 end) rest =
      let curve = Curve.Cubic start control1 control2 end in legs-lead start end (pieces_of limit 10 curve) rest (pieces-lead limit 10 curve)
  segment-joined (Segment.Arc shape) rest = arc-lead shape 0 31 rest
  segment-joined (Segment.Fallback shape) rest = (refl, refl)

  pub segment-flagged : (segment : PathSegment) → Flagged limit segment (segment_tally limit segment).far
  unfolding Flagged segment_tally
  segment-flagged (Segment.Line line) = refl
  segment-flagged (Segment.Quad start control end) = curve-judged limit (Curve.Quad start control end)
  segment-flagged (Segment.Cubic start control1 control2 end) = curve-judged limit (Curve.Cubic start control1 control2 end)
  segment-flagged (Segment.Arc shape) = refl
  segment-flagged (Segment.Fallback shape) = refl

  pub segment-flown :
      (segment : PathSegment) (rest : List Float)
      → SegmentFlown limit segment (segment_legs limit segment ++ rest) (segment_tally limit segment).legs (segment_tally limit segment).far
  segment-flown segment rest =
      let own = segment_legs limit segment in
      record {
        counted = segment-counted segment;
        drawn = rw (← segment-length limit segment) (take-append-le (length own) own rest (omega arith) ∙ take_all (length own) own (omega arith));
        joined = segment-joined segment rest;
        flagged = segment-flagged segment;
      }

-- ---- a path

module _ (limit : Float) where
  -- the legs of the segments before i
  abbrev pub legs_before : List ℕ → List Float → ℕ → ℕ
  legs_before kinds fields i = (path_tally limit (take i kinds) fields).legs

  -- those of segment i stand after them
  each-flown :
      (kinds : List ℕ) (fields rest : List Float) (i : ℕ) → i < length kinds
      → SegmentFlown limit (segment_in kinds fields i) (drop (4 * legs_before kinds fields i) (path_legs limit kinds fields ++ rest))
      (segment_tally limit (segment_in kinds fields i)).legs (segment_tally limit (segment_in kinds fields i)).far
  unfolding path_legs path_tally segment_in before
  each-flown [] fields rest i h = absurd (not-suc-le-zero h)
  each-flown (kind ∷ kinds) fields rest zero h =
      rw (append_assoc (segment_legs limit (segment_of kind fields)) (path_legs limit kinds (drop (width_of kind) fields)) rest)
      (segment-flown limit (segment_of kind fields) (path_legs limit kinds (drop (width_of kind) fields) ++ rest))
  each-flown (kind ∷ kinds) fields rest (suc i) h =
      let own = segment_legs limit (segment_of kind fields) in
      let more = drop (width_of kind) fields in
      let sum : 4 * legs_before (kind ∷ kinds) fields (suc i) ≡ length own + 4 * legs_before kinds more i = omega (arith, segment-length limit (segment_of kind fields)) in
      let past : drop (4 * legs_before (kind ∷ kinds) fields (suc i)) ((own ++ path_legs limit kinds more) ++ rest) ≡ drop (4 * legs_before kinds more i) (path_legs limit kinds more ++ rest) =
      ap (λ (l : List Float). drop (4 * legs_before (kind ∷ kinds) fields (suc i)) l) (append_assoc own (path_legs limit kinds more) rest)
      ∙ ap (λ (n : ℕ). drop n (own ++ (path_legs limit kinds more ++ rest))) sum
      ∙ drop-append-add own (path_legs limit kinds more ++ rest) (4 * legs_before kinds more i) in
      rw (past, ← drop-drop (before width_of kinds i) (width_of kind) fields) (each-flown kinds more rest i (le_of_suc-le-suc h))

  -- the path's flag is set where some segment's is
  each-clear :
      (kinds : List ℕ) (fields : List Float) → (path_tally limit kinds fields).far ≡ false → (i : ℕ) → i < length kinds → (segment_tally limit (segment_in kinds fields i)).far ≡ false
  unfolding path_tally segment_in before
  each-clear [] fields clear i h = absurd (not-suc-le-zero h)
  each-clear (kind ∷ kinds) fields clear zero h = (neither (segment_tally limit (segment_of kind fields)).far (path_tally limit kinds (drop (width_of kind) fields)).far clear).0
  each-clear (kind ∷ kinds) fields clear (suc i) h =
      let rest = (neither (segment_tally limit (segment_of kind fields)).far (path_tally limit kinds (drop (width_of kind) fields)).far clear).1 in
      rw (← drop-drop (before width_of kinds i) (width_of kind) fields) (each-clear kinds (drop (width_of kind) fields) rest i (le_of_suc-le-suc h))

  some-set :
      (kinds : List ℕ) (fields : List Float) → (path_tally limit kinds fields).far ≡ true → (i : ℕ) × (i < length kinds) × ((segment_tally limit (segment_in kinds fields i)).far ≡ true)
  unfolding path_tally segment_in before
  some-set [] fields set = absurd (true≢false (sym set))
  some-set (kind ∷ kinds) fields set =
      go (either (segment_tally limit (segment_of kind fields)).far (path_tally limit kinds (drop (width_of kind) fields)).far set) (some-set kinds (drop (width_of kind) fields))
    where
      go :
          ((segment_tally limit (segment_of kind fields)).far ≡ true) ⊎ ((path_tally limit kinds (drop (width_of kind) fields)).far ≡ true)
          → ((path_tally limit kinds (drop (width_of kind) fields)).far ≡ true
          → (i : ℕ) × (i < length kinds) × ((segment_tally limit (segment_of (get_or kinds i 0) (drop (before width_of kinds i) (drop (width_of kind) fields)))).far ≡ true))
          → (i : ℕ) × (i < suc (length kinds))
          × ((segment_tally limit (segment_of (get_or (kind ∷ kinds) i 0) (drop (before width_of (kind ∷ kinds) i) fields))).far ≡ true)
      go (inl own) rest = (0, omega arith, own)
      go (inr later) rest =
          let found = rest later in
          (suc found.0, omega (arith, found.1), rw (drop-drop (before width_of kinds found.0) (width_of kind) fields) at found.2)

  pub path-flown :
      (kinds : List ℕ) (fields rest : List Float)
      → PathFlown limit kinds fields (path_legs limit kinds fields ++ rest) (path_tally limit kinds fields).legs (path_tally limit kinds fields).far
  unfolding path_tally
  path-flown kinds fields rest =
      record {
        first = legs_before kinds fields;
        count = λ (i : ℕ). (segment_tally limit (segment_in kinds fields i)).legs;
        flag = λ (i : ℕ). (segment_tally limit (segment_in kinds fields i)).far;
        starts = refl;
        follows = λ (i : ℕ) (h : i < length kinds). ap (λ (t : Tally). t.legs) (tally-more limit kinds fields i h);
        ends = ap (λ (ks : List ℕ). (path_tally limit ks fields).legs) (take_all (length kinds) kinds (omega arith));
        each = each-flown kinds fields rest;
        clear = each-clear kinds fields;
        set = some-set kinds fields;
        most = path-few limit kinds fields;
      }
