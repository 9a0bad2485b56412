-- Demand 3 of the letter, over any lookup on a stored path: `Demand3 b place` says that `place`, which gives a pair of segment number and raw parameter for a progress,
-- meets it on the buffers. The record speaks of that pair and of the buffers: it names no lookup of `Places.antt`. Its order is the letter's; the quotes are its sentences. What one table asks,
-- `Inside`, `Enclose` and `Swept`, is in table_order/specs/Swept.antt. `demand-3` of proofs/Demand3.antt proves it of `place_of`; proofs/Refused.antt shows what it forbids. Segments and entries
-- count from 0; lengths are f32 values in path units. Definitions only.
use Rattle.std.specs.Prelude.{ℕ, ◌-◌, ◌≡◌, List, T, length, get_or, Float}
use Rattle.std.specs.Float.Ieee.{lt, le}
use Rattle.floats.specs.Floats.{zero_f, one_f, epsilon_f, clamp01_of}
use Rattle.table.specs.declared.tables.Table.{Table}
use Rattle.table.specs.Lookup.{at, target_of, share_of}
use Rattle.table.specs.Spots.{before, path_total}
use Rattle.table_order.specs.Stated.{NoStepBack}
use Rattle.table_order.specs.Swept.{Inside, Enclose, Swept}
use Rattle.path_segment.specs.Segments.{has_table, table_at}
use Rattle.path_stored.specs.Buffers.{Buffers}
use Rattle.path_place.specs.declared.places.Place.{Place}
use Rattle.path_place.specs.Places.{placed, table_start}

-- ---- the words

-- the target of a progress along a path
abbrev pub target_along : List Float → Float → Float
target_along lengths progress = target_of (path_total lengths) progress

-- The local progress of a progress on the segment i: the share of the way from the running length before it to its own at which the target lies (document 01, "A path picks its segment the
-- same way over its running lengths": "interpolate with a span of at least 2^-23, clamp").
abbrev pub local_of : List Float → Float → ℕ → Float
local_of lengths progress i = share_of (before lengths i) (at lengths i) (target_along lengths progress)

-- the table of the segment i, among the tables
abbrev pub table_on : Buffers → ℕ → Table
table_on b i = table_at b.tables (table_start b.kinds i)

-- ---- the pair given at a progress

-- the running lengths of the segment given enclose the target
abbrev pub EnclosedBy : Buffers → Float → Place → Type 0
EnclosedBy b progress pair = Enclose (before b.lengths pair.segment) (at b.lengths pair.segment) (target_along b.lengths progress)

-- where the segment given has a table longer than 2^-23: at the target of the local progress, the raw parameter given is where the table's 32 entries put it
abbrev pub SweptBy : Buffers → Float → Place → Type 0
SweptBy b progress pair =
    let table = table_on b pair.segment in
    let target = target_of table.total (local_of b.lengths progress pair.segment) in
    T (has_table (get_or b.kinds pair.segment 0)) → T (lt epsilon_f table.total) → Swept 31 table.entries table.total target pair.raw.value

-- ---- the demand

pub record Demand3 (b : Buffers) (place : Float → Place) : Type 0 where
  -- "Progress that is NaN counts as 0, the rest is clamped."
  pub counts : (p : Float) → place p ≡ place (clamp01_of p)
  -- "As progress rises from 0 to 1, the pair of segment number and raw parameter .. never steps back"
  pub order : (p q : Float) → T (le (clamp01_of p) (clamp01_of q)) → NoStepBack (place p).segment (place p).raw.value (place q).segment (place q).raw.value
  -- "it starts at the first segment's 0"
  pub starts : place zero_f ≡ placed 0 zero_f
  -- "and ends at the last one's 1"
  pub ends : place one_f ≡ placed (length b.kinds - 1) one_f
  -- "Where the target (total times progress, rounded) is above 0 and below the total, the running lengths of the segment given enclose it: the one before (or 0) is below it, its own is not."
  pub enclosed : (p : Float) → Inside (path_total b.lengths) (target_along b.lengths p) → EnclosedBy b p (place p)
  -- "The same holds in each curve's table longer than 2^-23, where the raw parameter also lies between the places of the two chosen entries, i/31 rounded."
  pub swept : (p : Float) → Inside (path_total b.lengths) (target_along b.lengths p) → SweptBy b p (place p)
