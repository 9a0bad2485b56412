-- A table among the tables of a stored path: its 32 entries, where it stands, and that it is sound. Assumes nothing.
use mathlib.Core.Path.{◌≡◌}
use Prim.Native.Nat.{ℕ, zero, suc, ◌+◌, ◌-◌, ◌<◌}
use native.Mathlib.Omega.{arith}
use mathlib.Core.List.{List, [], ◌∷◌}
use lib.Dec.{T}
use lib.ListN.{length, get_or, length-take, length-drop}
use lib.Ieee.{Float}
use lib.Ieee.Bits.{is_true}
use Rattle.table.specs.Lookup.{last_of}
use Rattle.table.specs.Sound.{SoundTable}
use Rattle.path_segment.specs.Segments.{tables_of, has_table, table_at}
use Rattle.path_segment.proofs.Widths.{one_table}
use Rattle.path_stored.specs.Buffers.{Buffers}
use Rattle.path_stored.specs.Stored.{before, Stored}
use Rattle.path_stored.proofs.Counting.{before-fits}
use Rattle.path_place.specs.Places.{table_start, TableThere, Findable}

-- the part of the tables that a lookup is lent is 32 long
pub part-size : (first : ℕ) → first + 32 - first ≡ 32
part-size first = omega arith

module _ {tables : List Float} {first : ℕ} (there : TableThere tables first) where
  entries-count : length (table_at tables first).entries ≡ 32
  entries-count = let h = there.room in simp (length-take, length-drop) (omega arith)

  pub entries-last : last_of (table_at tables first).entries ≡ 31
  entries-last = let h = entries-count in omega arith

  pub there-sound : SoundTable (table_at tables first).entries (table_at tables first).total
  there-sound = record { sound = there.sound; counted = let h = entries-last in omega arith }

-- ---- the tables of a stored path

-- past the last segment there is no table
pub has-inside : (kinds : List ℕ) (i : ℕ) → T (has_table (get_or kinds i 0)) → i < length kinds
unfolding has_table tables_of
has-inside [] i has = absurd has
has-inside (kind ∷ kinds) zero has = omega arith
has-inside (kind ∷ kinds) (suc i) has = let h = has-inside kinds i has in omega arith

-- each segment that has a table has it among them
pub table_counted : (kinds : List ℕ) (i : ℕ) → i < length kinds → T (has_table (get_or kinds i 0)) → before tables_of kinds i < before tables_of kinds (length kinds)
table_counted kinds i inside has =
    let one = one_table (get_or kinds i 0) (is_true _ has) in
    let fits = before-fits tables_of kinds i inside in
    omega arith

module _ {b : Buffers} (s : Stored b) where
  pub table-there : (i : ℕ) → i < length b.kinds → T (has_table (get_or b.kinds i 0)) → TableThere b.tables (table_start b.kinds i)
  unfolding table_start
  table-there i inside has =
      let counted = table_counted b.kinds i inside has in
      record { room = let all = s.counted in omega arith; sound = s.each (before tables_of b.kinds i) counted }

  -- a stored path can be looked up
  pub findable : Findable b.kinds b.tables b.lengths
  findable = record { few = s.few; one = s.one; rising = s.rising; tabled = table-there }
