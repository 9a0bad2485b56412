-- Worked examples that hold the definitions of an arc's legs down, of any arc. Assumes nothing.
use Prim.Native.Nat.{ℕ, ◌≤◌}
use mathlib.Core.Path.{◌≡◌, refl}
use native.Mathlib.Omega.{arith}
use borrow.Author.Tests.{ne_eqb}
use lib.Ieee.{Float}
use lib.ListN.{length}
use Rattle.commands.specs.Listed.{point_at}
use Rattle.table_samples.specs.Samples.{sample_at}
use Rattle.ellipse.specs.declared.ends.Arc.{Arc}
use Rattle.ellipse.specs.Shape.{point_on}
use Rattle.path_segment.specs.declared.segments.PathSegment.TheVariants as Segment
use Rattle.legs.specs.Segments.{arc_point, arc_legs, segment_legs}

-- 124 numbers; the first leg starts at the stored start and the last ends at the stored end, wherever the samples at 0 and at 1 lie, and the second leg starts at sample 1
pub arc-ends :
    (limit : Float) (shape : Arc)
    → (length (segment_legs limit (Segment.Arc shape)) ≡ 124)
    × (point_at (segment_legs limit (Segment.Arc shape)) 0 ≡ shape.start)
    × (point_at (segment_legs limit (Segment.Arc shape)) 4 ≡ sample_at (point_on shape) 31 1)
    × (point_at (segment_legs limit (Segment.Arc shape)) 120 ≡ sample_at (point_on shape) 31 30)
    × (point_at (segment_legs limit (Segment.Arc shape)) 122 ≡ shape.end)
unfolding segment_legs arc_legs arc_point
arc-ends limit shape = (refl, refl, refl, refl, refl)

-- between them stand the samples
pub arc-between : (shape : Arc) (i : ℕ) → 1 ≤ i → i ≤ 30 → arc_point shape i ≡ sample_at (point_on shape) 31 i
unfolding arc_point
arc-between shape i low high = rw (ne_eqb i 0 (λ (e : i ≡ 0). omega arith), ne_eqb i 31 (λ (e : i ≡ 31). omega arith))
