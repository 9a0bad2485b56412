-- What is promised of the legs that a call stores (document 02, L8), of the numbers that its caller holds. Segments and legs count from 0; a leg has four numbers. Definitions only.
use Rattle.std.specs.Prelude.{ℕ, suc, ◌+◌, ◌*◌, ◌≤◌, ◌<◌, ◌≡◌, Bool, true, false, List, Float, length, take, drop}
use Rattle.math.specs.declared.points.Point.{Point}
use Rattle.path_segment.specs.declared.segments.PathSegment.{PathSegment}
use Rattle.path_segment.specs.declared.segments.PathSegment.TheVariants as Segment
use Rattle.path_stored.specs.Stored.{segment_in}
use Rattle.flat.specs.declared.curves.Curve.{Curve}
use Rattle.flat.specs.Pieces.{pieces_of}
use Rattle.flat.specs.Promises.{Leads, EachNear, SomeFar}
use Rattle.legs.specs.Segments.{segment_legs}

-- "the segment's own ends": as they are stored
unfoldable pub start_of : PathSegment → Point
start_of (Segment.Line line) = line.start
start_of (Segment.Quad start control end) = start
start_of (Segment.Cubic start control1 control2 end) = start
start_of (Segment.Arc shape) = shape.start
start_of (Segment.Fallback shape) = shape.start

unfoldable pub end_of : PathSegment → Point
end_of (Segment.Line line) = line.end
end_of (Segment.Quad start control end) = end
end_of (Segment.Cubic start control1 control2 end) = end
end_of (Segment.Arc shape) = shape.end
end_of (Segment.Fallback shape) = shape.end

-- "lines and fallback arcs are one leg, other arcs give 31 legs"; ten halvings of a curve leave 1,024 pieces at most
abbrev pub OfCurve : ℕ → Type 0
OfCurve n = (1 ≤ n) × (n ≤ 1024)

unfoldable pub Counted : PathSegment → ℕ → Type 0
Counted (Segment.Line line) n = n ≡ 1
Counted (Segment.Quad start control end) n = OfCurve n
Counted (Segment.Cubic start control1 control2 end) n = OfCurve n
Counted (Segment.Arc shape) n = n ≡ 31
Counted (Segment.Fallback shape) n = n ≡ 1

-- what the flag says of a curve of ten halvings: clear, that the controls of every piece are within the distance of its leg; set, that those of a piece with no halving left are not
pub record Judged (limit : Float) (curve : Curve) (far : Bool) : Type 0 where
  pub clear : far ≡ false → EachNear limit (pieces_of limit 10 curve)
  pub set : far ≡ true → SomeFar limit (pieces_of limit 10 curve)

-- only a curve sets it
unfoldable pub Flagged : Float → PathSegment → Bool → Type 0
Flagged limit (Segment.Line line) far = far ≡ false
Flagged limit (Segment.Quad start control end) far = Judged limit (Curve.Quad start control end) far
Flagged limit (Segment.Cubic start control1 control2 end) far = Judged limit (Curve.Cubic start control1 control2 end) far
Flagged limit (Segment.Arc shape) far = far ≡ false
Flagged limit (Segment.Fallback shape) far = far ≡ false

-- n legs of a segment at the start of these numbers: they are the legs of its definition, a curve's the chords of the pieces that the flag speaks of, an arc's through its samples; and
-- "within one segment each starts where the one before ends, and the segment's own ends are exact"
pub record SegmentFlown (limit : Float) (segment : PathSegment) (numbers : List Float) (n : ℕ) (far : Bool) : Type 0 where
  pub counted : Counted segment n
  pub drawn : take (4 * n) numbers ≡ segment_legs limit segment
  pub joined : Leads (start_of segment) n numbers (end_of segment)
  pub flagged : Flagged limit segment far

-- the legs of a path at the start of these numbers: "Legs come out in path order"; "The answer says whether any piece stopped at the tenth halving still too far"
pub record PathFlown (limit : Float) (kinds : List ℕ) (fields numbers : List Float) (legs : ℕ) (far : Bool) : Type 0 where
  -- the number of each segment's first leg, how many it has, and its own flag
  pub first : ℕ → ℕ
  pub count : ℕ → ℕ
  pub flag : ℕ → Bool
  -- nothing stands before the first segment, between two, or after the last
  pub starts : first 0 ≡ 0
  pub follows : (i : ℕ) → i < length kinds → first (suc i) ≡ first i + count i
  pub ends : first (length kinds) ≡ legs
  pub each : (i : ℕ) → i < length kinds → SegmentFlown limit (segment_in kinds fields i) (drop (4 * first i) numbers) (count i) (flag i)
  pub clear : far ≡ false → (i : ℕ) → i < length kinds → flag i ≡ false
  pub set : far ≡ true → (i : ℕ) × (i < length kinds) × (flag i ≡ true)
  pub most : legs ≤ 1024 * length kinds
