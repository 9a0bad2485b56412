-- "Stored path check" (document 01, "Lengths, tables and lookup"; document 02, L5): the five buffers of a path. Segments, tables and commands count from 0; -0 equals 0. Definitions only.
use Rattle.std.specs.Prelude.{ℕ, zero, suc, ◌+◌, ◌*◌, ◌≤◌, ◌<◌, ◌≡◌, Bool, true, ◌&&◌, cond, List, [], ◌∷◌, T, leb, ltb, eqb, length, get_or, drop, Float}
use Rattle.table.specs.declared.tables.Table.{Table}
use Rattle.table.specs.Sound.{lengths_are_sound, table_is_sound}
use Rattle.arc.specs.Arcs.{no_table}
use Rattle.path_segment.specs.declared.segments.PathSegment.{PathSegment}
use Rattle.path_segment.specs.Segments.{width_of, tables_of, has_table, segment_of, table_at}
use Rattle.path_stored.specs.Buffers.{Buffers}

-- what the segments before number i have in all; i may be their count
unfoldable pub before : (ℕ → ℕ) → List ℕ → ℕ → ℕ
before f [] i = 0
before f (kind ∷ kinds) zero = 0
before f (kind ∷ kinds) (suc i) = f kind + before f kinds i

-- "at most 65,536 segments"
abbrev pub most_segments : ℕ
most_segments = 65536

-- "of known kinds": 0 to 4
unfoldable pub are_known : List ℕ → Bool
are_known [] = true
are_known (kind ∷ kinds) = ltb kind 5 && are_known kinds

-- "each table (quad, cubic, non-fallback arc) starts at 0, is finite, never falls, and its total is its last entry": the first n of 33 numbers each
unfoldable pub tables_are_sound : List Float → ℕ → Bool
unfolding table_is_sound
tables_are_sound tables zero = true
tables_are_sound tables (suc n) = tables_are_sound tables n && table_is_sound (table_at tables (33 * n)).entries (table_at tables (33 * n)).total

-- "BadPath also when command numbers are not one per segment, or fall": none is below the one before it, where `from` stands before the first; equal numbers pass
unfoldable pub never_fall : ℕ → List ℕ → Bool
never_fall from [] = true
never_fall from (own ∷ commands) = leb from own && never_fall own commands

-- the number before those that follow: the last one, and 0 where there is none
abbrev pub last_number : List ℕ → ℕ
last_number commands = get_or (0 ∷ commands) (length commands) 0

-- the rule as a test
unfoldable pub is_stored : Buffers → Bool
unfolding are_known before tables_are_sound never_fall
is_stored b =
    let count = length b.kinds in
    leb count most_segments
    && are_known b.kinds
    && eqb (length b.fields) (before width_of b.kinds count)
    && eqb (length b.tables) (33 * before tables_of b.kinds count)
    && tables_are_sound b.tables (before tables_of b.kinds count)
    && eqb (length b.lengths) count
    && lengths_are_sound b.lengths
    && eqb (length b.commands) count
    && never_fall 0 b.commands

-- the same, to be read: "at most 65,536 segments of known kinds with exactly their numbers and tables; one running length each, finite, not below 0, never falling; each table
-- starts at 0, is finite, never falls, and its total is its last entry"; command numbers "one per segment", which do not fall
pub record Stored (b : Buffers) : Type 0 where
  pub few : length b.kinds ≤ most_segments
  pub known : (i : ℕ) → i < length b.kinds → get_or b.kinds i 0 < 5
  pub numbers : length b.fields ≡ before width_of b.kinds (length b.kinds)
  pub counted : length b.tables ≡ 33 * before tables_of b.kinds (length b.kinds)
  pub each : (n : ℕ) → n < before tables_of b.kinds (length b.kinds) → T (table_is_sound (table_at b.tables (33 * n)).entries (table_at b.tables (33 * n)).total)
  pub one : length b.lengths ≡ length b.kinds
  pub rising : T (lengths_are_sound b.lengths)
  pub told : length b.commands ≡ length b.kinds
  pub ordered : (i : ℕ) → suc i < length b.commands → get_or b.commands i 0 ≤ get_or b.commands (suc i) 0

-- ---- what is read of a segment

-- what its fields ask of a path
pub record Fielded (kinds : List ℕ) (fields : List Float) : Type 0 where
  pub few : length kinds ≤ most_segments
  pub known : (i : ℕ) → i < length kinds → get_or kinds i 0 < 5
  pub counted : length fields ≡ before width_of kinds (length kinds)

-- what its table asks of it
pub record Tabled (kinds : List ℕ) (tables : List Float) : Type 0 where
  pub few : length kinds ≤ most_segments
  pub counted : length tables ≡ 33 * before tables_of kinds (length kinds)
  pub each : (n : ℕ) → n < before tables_of kinds (length kinds) → T (table_is_sound (table_at tables (33 * n)).entries (table_at tables (33 * n)).total)

-- segment i, whose fields stand after those of the segments before it
unfoldable pub segment_in : List ℕ → List Float → ℕ → PathSegment
unfolding before segment_of
segment_in kinds fields i = segment_of (get_or kinds i 0) (drop (before width_of kinds i) fields)

-- its table, after those of the segments before it; `no_table`, which is not sound, for a line and a line fallback
unfoldable pub table_in : List ℕ → List Float → ℕ → Table
unfolding before has_table no_table
table_in kinds tables i = cond (has_table (get_or kinds i 0)) (table_at tables (33 * before tables_of kinds i)) no_table
