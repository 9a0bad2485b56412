-- Demand 3 of one table, over any lookup on it: `Steady n entries total raw` says that `raw`, which gives a raw parameter for a progress, meets it on a table with these entries and this
-- total, the last entry numbered n: 31 in a table of 32. The records speak of the entries and of what `raw` gives; none names a search. `steady` of proofs/Swept.antt proves it of `raw_of`.
-- The quotes are the letter's sentences. Entries count from 0. Definitions only.
use Rattle.std.specs.Prelude.{ℕ, ◌-◌, ◌≤◌, ◌≡◌, not, List, T, Float}
use Rattle.std.specs.Float.Ieee.{lt, le}
use Rattle.floats.specs.Floats.{zero_f, one_f, epsilon_f, clamp01_of}
use Rattle.table.specs.Lookup.{at, target_of, mark_of}

-- "Where the target (total times progress, rounded) is above 0 and below the total": `target_of total progress` is that target
pub record Inside (total target : Float) : Type 0 where
  pub above : T (lt zero_f target)
  pub below : T (lt target total)

-- "the one before (or 0) is below it, its own is not": two running lengths that follow each other enclose a target
pub record Enclose (previous own target : Float) : Type 0 where
  pub lower : T (lt previous target)
  pub upper : T (not (lt own target))

-- "the raw parameter also lies between the places of the two chosen entries, i/31 rounded": the entries chosen are the ones that enclose the target. There are no two such pairs (`chosen-once`).
pub record Chosen (n : ℕ) (entries : List Float) (target raw : Float) : Type 0 where
  pub entry : ℕ
  pub first : 1 ≤ entry
  pub last : entry ≤ n
  pub enclose : Enclose (at entries (entry - 1)) (at entries entry) target
  pub from : T (le (mark_of n (entry - 1)) raw)
  pub upto : T (le raw (mark_of n entry))

-- What the raw parameter of a target is, in a table longer than 2^-23: 0 at or below 0, 1 at or above the total, and in between it lies between the places of the two entries around the target.
pub record Swept (n : ℕ) (entries : List Float) (total target raw : Float) : Type 0 where
  pub starts : T (le target zero_f) → raw ≡ zero_f
  pub ends : T (le total target) → raw ≡ one_f
  pub chosen : Inside total target → Chosen n entries target raw

pub record Steady (n : ℕ) (entries : List Float) (total : Float) (raw : Float → Float) : Type 0 where
  -- "Progress that is NaN counts as 0, the rest is clamped."
  pub counts : (p : Float) → raw p ≡ raw (clamp01_of p)
  -- "As progress rises from 0 to 1, .. raw parameter .. never steps back"
  pub order : (p q : Float) → T (le (clamp01_of p) (clamp01_of q)) → T (le (raw p) (raw q))
  -- "it starts at .. 0 and ends at .. 1"
  pub starts : raw zero_f ≡ zero_f
  pub ends : raw one_f ≡ one_f
  -- "The same holds in each curve's table longer than 2^-23, where the raw parameter also lies between the places of the two chosen entries, i/31 rounded."
  pub swept : (p : Float) → T (lt epsilon_f total) → Swept n entries total (target_of total p) (raw p)
