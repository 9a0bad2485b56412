-- The table of a segment as it is stored: 33 numbers or none. Assumes nothing.
use Prim.Native.Nat.{ℕ, ◌+◌, ◌*◌, ◌≤◌}
use mathlib.Core.Path.{◌≡◌, refl, sym, ap, ◌∙◌}
use mathlib.Core.Bool.{true, false, false≢true}
use mathlib.Core.List.{[], ◌∷◌}
use native.Mathlib.Omega.{arith}
use lib.Ieee.{Float}
use lib.ListN.{length, length-append}
use Rattle.math.specs.declared.points.Point.{Point}
use Rattle.table_samples.specs.Samples.{table_of}
use Rattle.table_samples.proofs.Made.{made-count}
use Rattle.path_segment.specs.declared.segments.PathSegment.{PathSegment}
use Rattle.path_segment.specs.declared.segments.PathSegment.TheVariants as Segment
use Rattle.path_segment.specs.Segments.{kind_of, tables_of, has_table, table_for, table_numbers, table_stored, length_for}
use Rattle.path_segment.proofs.Widths.{tables-most, one_table}

-- ---- a table that is made

pub made-size : (formula : Float → Point) → length (table_of formula).entries ≡ 32
unfolding table_of
made-size formula = made-count formula 31

numbers-size : (formula : Float → Point) → length (table_numbers (table_of formula)) ≡ 33
numbers-size formula = length-append (table_of formula).entries ((table_of formula).total ∷ []) ∙ ap (λ n. n + 1) (made-size formula)

-- ---- a segment's

pub stored-size : (segment : PathSegment) → length (table_stored segment) ≡ 33 * tables_of (kind_of segment)
unfolding tables_of has_table table_stored table_for
stored-size (Segment.Line line) = refl
stored-size (Segment.Quad start control end) = numbers-size _
stored-size (Segment.Cubic start control1 control2 end) = numbers-size _
stored-size (Segment.Arc shape) = numbers-size _
stored-size (Segment.Fallback shape) = refl

-- the length of a segment with a table is the table's total
pub total-is : (segment : PathSegment) → has_table (kind_of segment) ≡ true → (table_for segment).total ≡ length_for segment
unfolding has_table tables_of table_for length_for
total-is (Segment.Line line) e = absurd (false≢true e)
total-is (Segment.Quad start control end) e = refl
total-is (Segment.Cubic start control1 control2 end) e = refl
total-is (Segment.Arc shape) e = refl
total-is (Segment.Fallback shape) e = absurd (false≢true e)

module _ (segment : PathSegment) where
  pub stored_some : has_table (kind_of segment) ≡ true → table_stored segment ≡ table_numbers (table_for segment)
  unfolding table_stored
  stored_some e = rw e

  pub table-some : has_table (kind_of segment) ≡ true → length (table_stored segment) ≡ 33
  table-some e = stored-size segment ∙ ap (λ n. 33 * n) (one_table (kind_of segment) e)

  pub table_none : has_table (kind_of segment) ≡ false → table_stored segment ≡ []
  unfolding table_stored
  table_none e = rw e

  pub table-most : length (table_stored segment) ≤ 33
  table-most = omega (arith, stored-size segment, tables-most (kind_of segment))

  -- what `table_width` tells of the segment's kind
  pub table_counted : {n kind : ℕ} → n ≡ 33 * tables_of kind → kind ≡ kind_of segment → n ≡ length (table_stored segment)
  table_counted e k = e ∙ ap (λ x. 33 * tables_of x) k ∙ sym (stored-size segment)
