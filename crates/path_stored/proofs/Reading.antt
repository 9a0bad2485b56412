-- What a stored path gives of segment i: its fields and its table are there, and the table is sound. Assumes nothing.
use Prim.Native.Nat.{ℕ, ◌+◌, ◌*◌, ◌≤◌, ◌<◌}
use mathlib.Core.Path.{◌≡◌}
use mathlib.Core.Bool.{true}
use mathlib.Core.List.{List}
use native.Mathlib.Omega.{arith}
use lib.Dec.{T}
use lib.Ieee.{Float}
use lib.ListN.{length, get_or}
use Rattle.table.specs.Sound.{table_is_sound}
use Rattle.path_segment.specs.Segments.{width_of, tables_of, has_table}
use Rattle.path_segment.proofs.Widths.{one_table}
use Rattle.path_stored.specs.Buffers.{Buffers}
use Rattle.path_stored.specs.Stored.{before, is_stored, Stored, Fielded, Tabled, table_in}
use Rattle.path_stored.proofs.Counting.{before-fits}
use Rattle.path_stored.proofs.Rule.{stored-rule}

module _ (b : Buffers) (stored : T (is_stored b)) where
  pub stored-fielded : Fielded b.kinds b.fields
  stored-fielded = let s = stored-rule b stored in record { few = s.few; known = s.known; counted = s.numbers }

  pub stored-tabled : Tabled b.kinds b.tables
  stored-tabled = let s = stored-rule b stored in record { few = s.few; counted = s.counted; each = s.each }

-- the same of buffers that are known to be a stored path
pub record-fielded : (b : Buffers) → Stored b → Fielded b.kinds b.fields
record-fielded b s = record { few = s.few; known = s.known; counted = s.numbers }

pub record-tabled : (b : Buffers) → Stored b → Tabled b.kinds b.tables
record-tabled b s = record { few = s.few; counted = s.counted; each = s.each }

-- its fields are there
pub segment-fields : {kinds : List ℕ} {fields : List Float} → Fielded kinds fields → (i : ℕ) → i < length kinds → before width_of kinds i + width_of (get_or kinds i 0) ≤ length fields
segment-fields {kinds} {fields} p i inside = let r = before-fits width_of kinds i inside in let q = p.counted in omega arith

module _ {kinds : List ℕ} {tables : List Float} (p : Tabled kinds tables) (i : ℕ) (inside : i < length kinds) (has : has_table (get_or kinds i 0) ≡ true) where
  below : before tables_of kinds i < before tables_of kinds (length kinds)
  below = let r = before-fits tables_of kinds i inside in omega (arith, one_table (get_or kinds i 0) has)

  -- its table is there
  pub segment-table : 33 * before tables_of kinds i + 33 ≤ length tables
  segment-table = let q = p.counted in omega (arith, below)

  -- and is sound
  pub table-in-sound : T (table_is_sound (table_in kinds tables i).entries (table_in kinds tables i).total)
  unfolding table_in
  table-in-sound = rw has (p.each (before tables_of kinds i) below)
