-- Marks of a stored path: the cursors of every so many segments, 256 at most, as two lists of numbers. Segments and marks count from 0. Definitions only.
use Rattle.std.specs.Prelude.{ℕ, ◌+◌, ◌*◌, ◌^◌, ◌≤◌, ◌<◌, ◌≡◌, List, length, get_or}
use Rattle.path_stored.specs.Near.{Known}
use Rattle.path_place.specs.declared.cursors.Cursor.{Cursor}
use Rattle.path_place.specs.Cursors.{cursor_of, Moving}

-- the segment of the mark k: they stand 2 ^ shift segments apart
abbrev pub segment_of : ℕ → ℕ → ℕ
segment_of shift k = k * 2 ^ shift

-- the cursor that the mark k keeps
abbrev pub mark_of : ℕ → List ℕ → List ℕ → ℕ → Cursor
mark_of shift fields tables k = record { segment = segment_of shift k; fields = get_or fields k 0; tables = get_or tables k 0 }

-- 256 marks reach over so many segments
pub record Reach (count shift : ℕ) : Type 0 where
  pub far : count ≤ segment_of shift 256
  pub small : shift ≤ 16

-- a place for each mark
pub record Sized (fields tables : List ℕ) : Type 0 where
  pub fields_are : length fields ≡ 256
  pub tables_are : length tables ≡ 256

-- each mark that stands on the path is the cursor of its segment
pub record Marked (kinds : List ℕ) (shift : ℕ) (fields tables : List ℕ) : Type 0 where
  pub sized : Sized fields tables
  pub reach : Reach (length kinds) shift
  pub are : (k : ℕ) → segment_of shift k < length kinds → mark_of shift fields tables k ≡ cursor_of kinds (segment_of shift k)

-- a way of at most 16 segments on, that ends no nearer to the path's start
pub record Short (from segment : ℕ) : Type 0 where
  pub later : from ≤ segment
  pub near : segment ≤ from + 16
  pub enough : 16 ≤ segment

-- such a way from a cursor, over known kinds
pub record Reaching (kinds : List ℕ) (from : Cursor) (segment : ℕ) : Type 0 where
  pub move : Moving kinds from segment
  pub short : Short from.segment segment
  pub known : Known kinds

-- a way to a segment of a path
pub record Leap (kinds : List ℕ) (from : Cursor) (segment : ℕ) : Type 0 where
  pub move : Moving kinds from segment
  pub inside : segment < length kinds
