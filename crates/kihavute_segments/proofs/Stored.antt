-- "A path or spline query: 12 only.": a segment of a stored path is never refused by its table, which the path's check found sound. Assumes nothing.
use Prim.Native.Nat.{ℕ, zero, suc, ◌<◌}
use mathlib.Core.Path.{◌≡◌, refl, subst}
use mathlib.Core.Bool.{true}
use mathlib.Core.List.{List}
use native.Mathlib.Omega.{arith}
use lib.Dec.{T}
use lib.ListN.{length, get_or, drop}
use lib.Ieee.{Float}
use Rattle.std.specs.Prelude.{Result, Ok, Err}
use Rattle.answers.specs.declared.refusals.Refusal.{Refusal}
use Rattle.answers.specs.declared.refusals.Refusal.TheVariants.{BadPath}
use Rattle.math.specs.declared.points.Point.{Point}
use Rattle.floats.proofs.Tests.{passed, cond_yes, same_test}
use Rattle.table.specs.declared.tables.Table.{Table}
use Rattle.table.specs.Sound.{table_is_sound}
use Rattle.bezier.specs.Curves.{placed_of}
use Rattle.bezier.specs.Quads.{quad_placed_of, quad_position_of, quad_heading_of, quad_tangent_of}
use Rattle.bezier.specs.Cubics.{cubic_placed_of, cubic_position_of, cubic_heading_of, cubic_tangent_of}
use Rattle.arc.specs.Lines.{line_position_of, line_tangent_of}
use Rattle.arc.specs.Arcs.{chord_line, arc_placed_of, arc_position_of, arc_heading_of, arc_tangent_of}
use Rattle.path_segment.specs.declared.segments.PathSegment.{PathSegment}
use Rattle.path_segment.specs.declared.segments.PathSegment.TheVariants as Segment
use Rattle.path_segment.specs.Segments.{kind_of, width_of, tables_of, has_table, segment_of}
use Rattle.path_stored.specs.Buffers.{Buffers}
use Rattle.path_stored.specs.Stored.{before, is_stored, Fielded, segment_in, table_in}
use Rattle.path_stored.proofs.Reading.{stored-fielded, stored-tabled, table-in-sound}
use Rattle.path_part.specs.Parts.{quad_with, cubic_with, position_of, tangent_of}

-- a place, and no refusal
pub record IsPlaced (placed : Result Point Refusal) : Type 0 where
  pub point : Point
  pub is : placed ≡ Ok point

-- ---- a segment with its table, if it has one
module _ (table : Table) (along : Float) where
  at-sound : (p : Point) → T (table_is_sound table.entries table.total) → placed_of table p ≡ Ok p
  unfolding placed_of
  at-sound p sound = cond_yes (table_is_sound table.entries table.total) (Ok p) (Err BadPath) sound

  part_placed : (segment : PathSegment) → (T (has_table (kind_of segment)) → T (table_is_sound table.entries table.total)) → IsPlaced (position_of segment table along)
  unfolding position_of quad_placed_of cubic_placed_of arc_placed_of has_table tables_of
  part_placed (Segment.Line line) sound = record { point = line_position_of line along; is = refl }
  part_placed (Segment.Quad start control end) sound =
      record { point = quad_position_of (quad_with start control end table) along; is = at-sound (quad_position_of (quad_with start control end table) along) (sound tt) }
  part_placed (Segment.Cubic start control1 control2 end) sound =
      record {
        point = cubic_position_of (cubic_with start control1 control2 end table) along;
        is = at-sound (cubic_position_of (cubic_with start control1 control2 end table) along) (sound tt);
      }
  part_placed (Segment.Arc shape) sound = record { point = arc_position_of shape table along; is = at-sound (arc_position_of shape table along) (sound tt) }
  part_placed (Segment.Fallback shape) sound = record { point = line_position_of (chord_line shape) along; is = refl }

  part-headed : (segment : PathSegment) → (T (has_table (kind_of segment)) → T (table_is_sound table.entries table.total)) → IsPlaced (tangent_of segment table along)
  unfolding tangent_of quad_heading_of cubic_heading_of arc_heading_of has_table tables_of
  part-headed (Segment.Line line) sound = record { point = line_tangent_of line; is = refl }
  part-headed (Segment.Quad start control end) sound =
      record { point = quad_tangent_of (quad_with start control end table) along; is = at-sound (quad_tangent_of (quad_with start control end table) along) (sound tt) }
  part-headed (Segment.Cubic start control1 control2 end) sound =
      record {
        point = cubic_tangent_of (cubic_with start control1 control2 end table) along;
        is = at-sound (cubic_tangent_of (cubic_with start control1 control2 end table) along) (sound tt);
      }
  part-headed (Segment.Arc shape) sound = record { point = arc_tangent_of shape table along; is = at-sound (arc_tangent_of shape table along) (sound tt) }
  part-headed (Segment.Fallback shape) sound = record { point = line_tangent_of (chord_line shape); is = refl }

-- ---- segment i of a stored path

-- a known kind reads as itself
segment-kind : (kind : ℕ) (numbers : List Float) → kind < 5 → kind_of (segment_of kind numbers) ≡ kind
unfolding segment_of
segment-kind zero numbers known = refl
segment-kind (suc zero) numbers known = refl
segment-kind (suc (suc zero)) numbers known = refl
segment-kind (suc (suc (suc zero))) numbers known = refl
segment-kind (suc (suc (suc (suc zero)))) numbers known = refl
segment-kind (suc (suc (suc (suc (suc kind))))) numbers known = absurd (omega arith)

kind-is : (kinds : List ℕ) (fields : List Float) → Fielded kinds fields → (i : ℕ) → i < length kinds → kind_of (segment_in kinds fields i) ≡ get_or kinds i 0
unfolding segment_in
kind-is kinds fields fielded i inside = segment-kind (get_or kinds i 0) (drop (before width_of kinds i) fields) (fielded.known i inside)

module _ (b : Buffers) (stored : is_stored b ≡ true) (i : ℕ) (inside : i < length b.kinds) (along : Float) where
  abbrev segment : PathSegment
  segment = segment_in b.kinds b.fields i

  abbrev own : Table
  own = table_in b.kinds b.tables i

  sound : T (has_table (kind_of segment)) → T (table_is_sound own.entries own.total)
  sound has =
      let kind = kind-is b.kinds b.fields (stored-fielded b (passed stored)) i inside in
      let curve = same_test (has_table (get_or b.kinds i 0)) true (λ _. tt) (λ _. subst (λ (k : ℕ). T (has_table k)) kind has) in
      table-in-sound (stored-tabled b (passed stored)) i inside curve

  pub stored-placed : IsPlaced (position_of segment own along)
  stored-placed = part_placed own along segment sound

  pub stored-headed : IsPlaced (tangent_of segment own along)
  stored-headed = part-headed own along segment sound
