-- A stored segment is read back: its kind and its fields settle it, and have the kind's width. Assumes nothing.
use Prim.Native.Nat.{ℕ, ◌+◌, ◌≤◌}
use mathlib.Core.Path.{◌≡◌, refl, sym, ap, ◌∙◌}
use mathlib.Core.List.{List, ◌++◌}
use lib.ListN.{length, drop}
use lib.Ieee.{Float}
use Rattle.path_segment.specs.declared.segments.PathSegment.{PathSegment}
use Rattle.path_segment.specs.declared.segments.PathSegment.TheVariants as Segment
use Rattle.math.specs.declared.points.Point.{Point}
use Rattle.commands.specs.Listed.{point_at}
use Rattle.commands.proofs.Decoding.{point-first, point-later}
use Rattle.path_segment.specs.Segments.{kind_of, width_of, fields_of, segment_of}
use Rattle.path_segment.proofs.Widths.{width-most}

pub segment-back : (s : PathSegment) (rest : List Float) → segment_of (kind_of s) (fields_of s ++ rest) ≡ s
unfolding segment_of
segment-back (Segment.Line line) rest = refl
segment-back (Segment.Quad start control end) rest = refl
segment-back (Segment.Cubic start control1 control2 end) rest = refl
segment-back (Segment.Arc shape) rest = refl
segment-back (Segment.Fallback shape) rest = refl

pub fields-width : (s : PathSegment) → length (fields_of s) ≡ width_of (kind_of s)
unfolding width_of
fields-width (Segment.Line line) = refl
fields-width (Segment.Quad start control end) = refl
fields-width (Segment.Cubic start control1 control2 end) = refl
fields-width (Segment.Arc shape) = refl
fields-width (Segment.Fallback shape) = refl

pub fields-most : (s : PathSegment) → length (fields_of s) ≤ 11
fields-most s = rw (fields-width s) (width-most (kind_of s))

-- what `width` tells of a segment's kind
pub fields-counted : (s : PathSegment) {n kind : ℕ} → n ≡ width_of kind → kind ≡ kind_of s → n ≡ length (fields_of s)
fields-counted s e k = e ∙ ap width_of k ∙ sym (fields-width s)

-- ---- an arm of `segment_at`
module _ {kind : ℕ} (fields : List Float) (at : ℕ) where
  pub cubic-at :
      {start control1 control2 end : Point} → start ≡ point_at fields at → control1 ≡ point_at fields (at + 2) → control2 ≡ point_at fields (at + 4) → end ≡ point_at fields (at + 6)
      → kind ≡ 2 → Segment.Cubic start control1 control2 end ≡ segment_of kind (drop at fields)
  unfolding segment_of
  cubic-at p q r s e = rw (point-first fields at p, point-later fields at 2 q, point-later fields at 4 r, point-later fields at 6 s, e)
