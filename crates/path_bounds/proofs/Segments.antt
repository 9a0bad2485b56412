-- The length of a line, a quad or a cubic between calm points is within 2^69, so that no path of up to 65,536 such segments has a running length that is not finite. Assumes nothing.
use Prim.Native.Nat.{ℕ, suc, ◌*◌, ◌≤◌, ◌<◌, ◌^◌}
use native.Mathlib.Omega.{arith}
use lib.Dec.{T}
use lib.Pow.{pow_mono}
use lib.Ieee.{Float, binary32, add}
use Rattle.math.specs.declared.points.Point.{Point}
use Rattle.math.specs.Math.{distance_of}
use Rattle.table_samples.specs.Samples.{table_of, total_of}
use Rattle.bezier.specs.Quads.{quad_sample_of}
use Rattle.bezier.specs.Cubics.{cubic_sample_of}
use Rattle.ellipse.specs.declared.ends.Arc.{Arc}
use Rattle.arc.specs.Lines.{line_of, line_length_of}
use Rattle.path_segment.specs.Segments.{length_for}
use Rattle.path_segment.specs.declared.segments.PathSegment.TheVariants as Segment
use Rattle.path_bounds.specs.Calm.{is_calm}
use Rattle.floats.proofs.Within.{Within, within-le}
use Rattle.path_bounds.proofs.Tested.{calm-near}
use Rattle.path_bounds.proofs.Roots.{distance-within}
use Rattle.path_bounds.proofs.Lengths.{quad-near, cubic-near, one_more, total-within}

straight : (start end : Point) → T (is_calm start) → T (is_calm end) → Within (2 ^ 69) (distance_of start end)
straight start end p q =
    let l : 2 ^ 64 ≤ 2 ^ 69 = pow_mono {i = 64} {j = 69} (omega arith) in
    within-le (distance_of start end) l (distance-within start end 40 (omega arith) (calm-near start p) (calm-near end q))

sampled : (total : Float) → Within (31 * 2 ^ 64) total → Within (2 ^ 69) total
sampled total w = let l : 31 * 2 ^ 64 ≤ 2 ^ 69 = omega arith in within-le total l w

pub line-short : (start end : Point) → T (is_calm start) → T (is_calm end) → Within (2 ^ 69) (length_for (Segment.Line (line_of start end)))
unfolding length_for line_length_of
line-short = straight

pub quad-short : (start control end : Point) → T (is_calm start) → T (is_calm control) → T (is_calm end) → Within (2 ^ 69) (length_for (Segment.Quad start control end))
unfolding length_for table_of
quad-short start control end p q r =
    sampled (total_of (quad_sample_of start control end) 31)
    (total-within (quad_sample_of start control end) 31 44 (omega arith) (quad-near start control end (calm-near start p) (calm-near control q) (calm-near end r)) (omega arith))

pub cubic-short :
    (start control1 control2 end : Point) → T (is_calm start) → T (is_calm control1) → T (is_calm control2) → T (is_calm end)
    → Within (2 ^ 69) (length_for (Segment.Cubic start control1 control2 end))
unfolding length_for table_of
cubic-short start control1 control2 end p q r s =
    sampled (total_of (cubic_sample_of start control1 control2 end) 31)
    (total-within (cubic_sample_of start control1 control2 end) 31 46 (omega arith)
    (cubic-near start control1 control2 end (calm-near start p) (calm-near control1 q) (calm-near control2 r) (calm-near end s)) (omega arith))

-- a line fallback's length is that of its line
pub fallback-short : (shape : Arc) → T (is_calm shape.start) → T (is_calm shape.end) → Within (2 ^ 69) (length_for (Segment.Fallback shape))
unfolding length_for line_length_of
fallback-short shape p q = straight shape.start shape.end p q

-- the running length after one segment more
pub running-short : (count : ℕ) (before own : Float) → count < 65536 → Within (count * 2 ^ 69) before → Within (2 ^ 69) own → Within (suc count * 2 ^ 69) (add binary32 before own)
running-short count before own few p q = one_more count 69 before own (omega arith) (omega arith) p q
