-- Where a segment's fields and its table stand in the buffers of a stored path. Definitions only.
use Rattle.std.specs.Prelude.{ℕ, ◌*◌, ◌≤◌, ◌≡◌, List, length}
use Rattle.path_segment.specs.Segments.{width_of, tables_of}
use Rattle.path_stored.specs.Stored.{before}
use Rattle.path_place.specs.declared.cursors.Cursor.{Cursor}

-- the fields and the tables of the segments before it, 33 numbers to a table
unfoldable pub cursor_of : List ℕ → ℕ → Cursor
unfolding before
cursor_of kinds segment = record { segment = segment; fields = before width_of kinds segment; tables = 33 * before tables_of kinds segment }

-- a walk to a later segment of at most 65,536, and one to an earlier
pub record Onward (kinds : List ℕ) (from : Cursor) (segment : ℕ) : Type 0 where
  pub few : length kinds ≤ 65536
  pub is : from ≡ cursor_of kinds from.segment
  pub later : from.segment ≤ segment
  pub inside : segment ≤ length kinds

-- a walk to any
pub record Moving (kinds : List ℕ) (from : Cursor) (segment : ℕ) : Type 0 where
  pub few : length kinds ≤ 65536
  pub is : from ≡ cursor_of kinds from.segment
  pub stood : from.segment ≤ length kinds
  pub inside : segment ≤ length kinds

pub record Backward (kinds : List ℕ) (from : Cursor) (segment : ℕ) : Type 0 where
  pub is : from ≡ cursor_of kinds from.segment
  pub inside : from.segment ≤ length kinds
  pub earlier : segment ≤ from.segment
