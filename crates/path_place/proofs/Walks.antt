-- The walk over the kinds of a path: the fields and tables of the segments passed, one segment on or back. Assumes nothing.
use mathlib.Core.Path.{◌≡◌, refl, sym, ap}
use Prim.Native.Nat.{ℕ, ◌+◌, ◌*◌, ◌-◌, ◌≤◌, ◌<◌}
use native.Mathlib.Omega.{arith}
use mathlib.Core.List.{List}
use lib.ListN.{length, get_or}
use Rattle.path_segment.specs.Segments.{width_of, tables_of}
use Rattle.path_segment.proofs.Widths.{width-most, tables-most}
use Rattle.path_stored.specs.Stored.{before}
use Rattle.path_stored.specs.Counts.{Adds}
use Rattle.path_stored.proofs.Counting.{sum_more, before-most, tables-at-most}
use Rattle.path_place.specs.declared.cursors.Cursor.{Cursor}
use Rattle.path_place.specs.Cursors.{cursor_of}

-- at a segment, with the fields and tables of those before it
pub record Walked (kinds : List ℕ) (at fields tables : ℕ) : Type 0 where
  pub fields_are : fields ≡ before width_of kinds at
  pub tables_are : tables ≡ 33 * before tables_of kinds at

pub walked_from : {kinds : List ℕ} {from : Cursor} → from ≡ cursor_of kinds from.segment → Walked kinds from.segment from.fields from.tables
unfolding cursor_of
walked_from e = record { fields_are = ap (λ (cursor : Cursor). cursor.fields) e; tables_are = ap (λ (cursor : Cursor). cursor.tables) e }

pub walked-is : {kinds : List ℕ} {at fields tables : ℕ} (segment : ℕ) → Walked kinds at fields tables → at ≡ segment
    → record { segment = segment; fields = fields; tables = tables } ≡ cursor_of kinds segment
unfolding cursor_of
walked-is segment w e = rw (← e, w.fields_are, w.tables_are)

pub walked_next : {kinds : List ℕ} {at fields tables : ℕ} (width table : ℕ) → Walked kinds at fields tables → at < length kinds
    → width ≡ width_of (get_or kinds at 0) → table ≡ 33 * tables_of (get_or kinds at 0) → Walked kinds (at + 1) (fields + width) (tables + table)
walked_next {kinds} {at} width table w inside e k =
    record {
      fields_are = sum_more width_of kinds at inside w.fields_are e;
      tables_are = let h = sum_more tables_of kinds at inside refl refl in let n = w.tables_are in omega arith;
    }

-- segments further on, whose fields and tables are counted
pub walked_on : {kinds : List ℕ} {at fields tables : ℕ} (to width count : ℕ) → Walked kinds at fields tables → Adds width_of kinds at to width → Adds tables_of kinds at to count
    → Walked kinds to (fields + width) (tables + 33 * count)
walked_on to width count w e k =
    let n = w.fields_are in
    let t = w.tables_are in
    record { fields_are = omega arith; tables_are = omega arith }

-- the segment before, whose fields and table are among those passed
module _ {kinds : List ℕ} {at fields tables : ℕ} (w : Walked kinds at fields tables) (some : 0 < at) (inside : at ≤ length kinds) where
  last_of : (f : ℕ → ℕ) → before f kinds at ≡ before f kinds (at - 1) + f (get_or kinds (at - 1) 0)
  last_of f =
      let e : at - 1 + 1 ≡ at = omega arith in
      let l : at - 1 < length kinds = omega arith in
      rw e at (sym (sum_more f kinds (at - 1) l refl refl))

  pub width-passed : (width : ℕ) → width ≡ width_of (get_or kinds (at - 1) 0) → width ≤ fields
  width-passed width e = let h = last_of width_of in let n = w.fields_are in omega arith

  pub table-passed : (table : ℕ) → table ≡ 33 * tables_of (get_or kinds (at - 1) 0) → table ≤ tables
  table-passed table e = let h = last_of tables_of in let n = w.tables_are in omega arith

  pub walked-back : (width table : ℕ) → width ≡ width_of (get_or kinds (at - 1) 0) → table ≡ 33 * tables_of (get_or kinds (at - 1) 0) → Walked kinds (at - 1) (fields - width) (tables - table)
  walked-back width table e k =
      record {
        fields_are = let h = last_of width_of in let n = w.fields_are in omega arith;
        tables_are = let h = last_of tables_of in let n = w.tables_are in omega arith;
      }

pub width-at-most : (kind width : ℕ) → width ≡ width_of kind → width ≤ 11
width-at-most kind width e = omega (arith, width-most kind)

pub table-at-most : (kind table : ℕ) → table ≡ 33 * tables_of kind → table ≤ 33
table-at-most kind table e = omega (arith, tables-most kind)

-- nothing overflows: a segment has at most 11 fields and a table
pub walked-fields : {kinds : List ℕ} {at fields tables : ℕ} → Walked kinds at fields tables → at ≤ 65536 → fields ≤ 720896
walked-fields {kinds} {at} w few = let h = before-most width_of 11 width-most kinds at in let n = w.fields_are in omega arith

pub walked-tables : {kinds : List ℕ} {at fields tables : ℕ} → Walked kinds at fields tables → at ≤ 65536 → tables ≤ 2162688
walked-tables {kinds} {at} w few = let h = tables-at-most kinds at in let n = w.tables_are in omega arith
