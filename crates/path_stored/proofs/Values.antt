-- The tables and the running lengths of a list of segments are f32 values: each is a rounded sum. So what is built needs no premise for demand 3. Assumes nothing.
use Prim.Native.Nat.{ℕ, zero, suc}
use mathlib.Core.List.{List, [], ◌∷◌, ◌++◌}
use lib.Dec.{T}
use lib.Ieee.{Float, binary32, add, fits}
use lib.Ieee.Fits.{nan-fits, add-fits}
use Rattle.floats.specs.Floats.{zero_f}
use Rattle.math.specs.declared.points.Point.{Point}
use Rattle.table.specs.Lookup.{at}
use Rattle.table_samples.specs.Samples.{total_of, lengths_of, table_of}
use Rattle.table_samples.proofs.Made.{made-fits, made-total-fits}
use Rattle.bezier.specs.Quads.{quad_sample_of}
use Rattle.bezier.specs.Cubics.{cubic_sample_of}
use Rattle.ellipse.specs.Shape.{point_on}
use Rattle.path_segment.specs.declared.segments.PathSegment.{PathSegment}
use Rattle.path_segment.specs.declared.segments.PathSegment.TheVariants as Segment
use Rattle.path_segment.specs.Segments.{tables_of, has_table, table_for, table_numbers, table_stored, length_for}
use Rattle.path_stored.specs.Layout.{tables_of_all, running_of, lengths_of_all}

-- each number of a list is an f32 value
abbrev pub F32s : List Float → Type 0
F32s xs = (k : ℕ) → T (fits binary32 (at xs k))

none-fit : F32s []
none-fit k = nan-fits binary32

append-fit : (xs ys : List Float) → F32s xs → F32s ys → F32s (xs ++ ys)
append-fit [] ys f g k = g k
append-fit (x ∷ xs) ys f g zero = f 0
append-fit (x ∷ xs) ys f g (suc k) = append-fit xs ys (λ i. f (suc i)) g k

-- ---- the tables

made-fit : (formula : Float → Point) → F32s (table_numbers (table_of formula))
unfolding table_of
made-fit formula = append-fit (lengths_of formula 31) (total_of formula 31 ∷ []) (made-fits formula 31) total-fits
  where
    total-fits : F32s (total_of formula 31 ∷ [])
    total-fits zero = made-total-fits formula 31
    total-fits (suc k) = nan-fits binary32

table-fit : (segment : PathSegment) → F32s (table_stored segment)
unfolding table_stored table_for has_table tables_of
table-fit (Segment.Line line) = none-fit
table-fit (Segment.Quad start control end) = made-fit (quad_sample_of start control end)
table-fit (Segment.Cubic start control1 control2 end) = made-fit (cubic_sample_of start control1 control2 end)
table-fit (Segment.Arc shape) = made-fit (point_on shape)
table-fit (Segment.Fallback shape) = none-fit

pub tables-fit : (segments : List PathSegment) → F32s (tables_of_all segments)
unfolding tables_of_all
tables-fit [] = none-fit
tables-fit (segment ∷ segments) = append-fit (table_stored segment) (tables_of_all segments) (table-fit segment) (tables-fit segments)

-- ---- the running lengths

running-fit : (start : Float) (segments : List PathSegment) → F32s (running_of start segments)
unfolding running_of
running-fit start [] k = nan-fits binary32
running-fit start (segment ∷ segments) zero = add-fits binary32 start (length_for segment)
running-fit start (segment ∷ segments) (suc k) = running-fit (add binary32 start (length_for segment)) segments k

pub lengths-fit : (segments : List PathSegment) → F32s (lengths_of_all segments)
unfolding lengths_of_all
lengths-fit segments = running-fit zero_f segments
