-- Where on a stored path a progress lies: the segment and its raw parameter (document 01, "A path picks its segment the same way over its running lengths"; source document 002,
-- `segment_at`, then `raw_t` of the segment that it gives). Segments count from 0. Definitions only.
use Rattle.std.specs.Prelude.{ℕ, ◌+◌, ◌*◌, ◌≤◌, ◌<◌, ◌≡◌, cond, List, T, length, get_or, Float}
use Rattle.floats.specs.Floats.{clamp01_of}
use Rattle.table.specs.declared.tables.Spot.{Spot}
use Rattle.table.specs.Lookup.{raw_of}
use Rattle.table.specs.Sound.{table_is_sound, lengths_are_sound}
use Rattle.table.specs.Spots.{spot_of}
use Rattle.path_segment.specs.Segments.{tables_of, has_table, table_at}
use Rattle.path_stored.specs.Buffers.{Buffers}
use Rattle.path_stored.specs.Stored.{before, most_segments}
use Rattle.path_place.specs.declared.cursors.Cursor.{Cursor}
use Rattle.path_place.specs.declared.places.Place.{Place}
use Rattle.path_place.specs.Cursors.{cursor_of}

-- ---- the segment's own lookup

-- the raw parameter of a local progress in the table that starts at the entry `first` of the tables
unfoldable pub raw_in : List Float → ℕ → Float → Float
unfolding raw_of
raw_in tables first along = raw_of (table_at tables first).entries (table_at tables first).total along

-- a quad, a cubic and an arc look it up in their table; "The raw parameter of a line or fallback arc is its clamped local progress."
unfoldable pub raw_for : ℕ → List Float → ℕ → Float → Float
unfolding has_table raw_in
raw_for kind tables first along = cond (has_table kind) (raw_in tables first along) (clamp01_of along)

-- where a segment's table starts: after the tables of the segments before it, 33 numbers each
unfoldable pub table_start : List ℕ → ℕ → ℕ
table_start kinds i = 33 * before tables_of kinds i

-- the raw parameter of a local progress on the segment i
unfoldable pub raw_within : List ℕ → List Float → ℕ → Float → Float
unfolding raw_for table_start
raw_within kinds tables i along = raw_for (get_or kinds i 0) tables (table_start kinds i) along

-- ---- the pair

abbrev pub placed : ℕ → Float → Place
placed segment raw = record { segment = segment; raw = record { value = raw } }

-- the raw parameter of a spot on the path
abbrev pub place_at : List ℕ → List Float → Spot → Place
place_at kinds tables spot = placed spot.segment (raw_within kinds tables spot.segment spot.progress.value)

-- the pick over the running lengths, then the segment's own lookup
unfoldable pub place_in : List ℕ → List Float → List Float → Float → Place
unfolding raw_within
place_in kinds tables lengths progress = place_at kinds tables (spot_of lengths progress)

-- which asks nothing of the fields
abbrev pub place_of : Buffers → Float → Place
place_of b progress = place_in b.kinds b.tables b.lengths progress

-- ---- what the lookups of `inner` ask

-- a whole table starts there, and it is sound
pub record TableThere (tables : List Float) (first : ℕ) : Type 0 where
  pub room : first + 33 ≤ length tables
  pub sound : T (table_is_sound (table_at tables first).entries (table_at tables first).total)

-- at most 65,536 segments, one sound running length each, each table in its place and sound
pub record Findable (kinds : List ℕ) (tables lengths : List Float) : Type 0 where
  pub few : length kinds ≤ most_segments
  pub one : length lengths ≡ length kinds
  pub rising : T (lengths_are_sound lengths)
  pub tabled : (i : ℕ) → i < length kinds → T (has_table (get_or kinds i 0)) → TableThere tables (table_start kinds i)

-- with a segment
pub record SomePlace (kinds : List ℕ) (tables lengths : List Float) : Type 0 where
  pub some : 0 < length kinds
  pub path : Findable kinds tables lengths

-- a cursor at a segment of the path, whose table is in its place
pub record Standing (kinds : List ℕ) (tables : List Float) (at : Cursor) : Type 0 where
  pub is : at ≡ cursor_of kinds at.segment
  pub inside : at.segment < length kinds
  pub tabled : T (has_table (get_or kinds at.segment 0)) → TableThere tables (table_start kinds at.segment)
