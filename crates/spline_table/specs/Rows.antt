-- What the passes over a spline's samples keep: how far they have come, a row of differences, of 16 samples, and the entries stored so far. Samples and entries count from 0. Definitions only.
use Rattle.std.specs.Prelude.{ℕ, suc, ◌+◌, ◌≤◌, ◌<◌, ◌≡◌, List, length, get_or, take, pos, Float}
use Rattle.std.specs.Float.{nan, binary32}
use Rattle.std.specs.Float.Ieee.{sub, mul, of_int}
use Rattle.floats.specs.Floats.{clamp01_of}
use Rattle.answers.specs.Report.{written}
use Rattle.math.specs.declared.points.Point.{Point}
use Rattle.table.specs.Lookup.{at, mark_of}
use Rattle.table_samples.specs.Samples.{sample_at, lengths_of}
use Rattle.spline.specs.Formula.{spline_sample_of, blend_of}
use Rattle.spline_table.specs.declared.rows.Walk.{Walk}
use Rattle.spline_table.specs.declared.rows.Row.{Row}
use Rattle.spline_table.specs.Tables.{Sampled}

-- a walk by its two parts
abbrev pub walk_of : Point → Float → Walk
walk_of previous total = record { previous = previous; total = total }

-- the sample k of n, and the running length at it
pub record Walking (formula : Float → Point) (n : ℕ) (walk : Walk) (k : ℕ) : Type 0 where
  pub upto : k ≤ n
  pub here : walk.previous ≡ sample_at formula n k
  pub sum : walk.total ≡ at (lengths_of formula n) k

-- a whole row lies ahead of the sample k, which is `first`
pub record Ahead (points : List Float) (last : ℕ) (first : Point) (k : ℕ) : Type 0 where
  pub sampled : Sampled points last
  pub whole : k + 16 ≤ last
  pub here : first ≡ sample_at (spline_sample_of points) last k

-- the same of a walk, with room for the entries
pub record Roomed (points : List Float) (last : ℕ) (walk : Walk) (k : ℕ) (table : List Float) : Type 0 where
  pub sampled : Sampled points last
  pub whole : k + 16 ≤ last
  pub walking : Walking (spline_sample_of points) last walk k
  pub room : last < length table

-- the differences from sample k to the next, and so on for 16 samples, and the sample after them
pub record Differences (formula : Float → Point) (n k : ℕ) (row : Row) : Type 0 where
  pub across : (i : ℕ) → i < 16 → get_or row.x i nan ≡ sub binary32 (sample_at formula n (suc (k + i))).x (sample_at formula n (k + i)).x
  pub along : (i : ℕ) → i < 16 → get_or row.y i nan ≡ sub binary32 (sample_at formula n (suc (k + i))).y (sample_at formula n (k + i)).y
  pub next : row.next ≡ sample_at formula n (k + 16)

-- the entries before k stand at the start of the table, and past them what stood there before
abbrev pub Entered : List Float → List Float → ℕ → List Float → Type 0
Entered lengths before k table = table ≡ written (take k lengths) before

-- a table with the entries before j becomes one with those before k
abbrev pub Grown : List Float → ℕ → ℕ → List Float → List Float → Type 0
Grown lengths j k table after = (before : List Float) → Entered lengths before j table → Entered lengths before k after

-- ---- one coordinate of a row

-- the mark at which the sample i of n is taken
abbrev pub clamped_mark_of : ℕ → ℕ → Float
clamped_mark_of n i = clamp01_of (mark_of n i)

-- the same along this many spans; nothing is said of the row's first sample, which is taken already
pub record Scaled (marks : List Float) (segments : ℕ) (r : List Float) : Type 0 where
  pub size : length r ≡ 16
  pub each : (i : ℕ) → 0 < i → i < 16 → at r i ≡ mul binary32 (at marks i) (of_int binary32 (pos segments))

-- between four numbers, at what is left of `scaled` past `low`
abbrev pub blend_at : Float → Float → Float → Float → Float → Float → Float
blend_at p0 p1 p2 p3 low scaled =
    let t = sub binary32 scaled low in
    blend_of p0 p1 p2 p3 t (mul binary32 t t) (mul binary32 (mul binary32 t t) t)

-- 17 samples: the first, what f gives each of the 15 marks after it, and the next row's first
pub record Laid (f : Float → Float) (marks : List Float) (first next : Float) (r : List Float) : Type 0 where
  pub starts : at r 0 ≡ first
  pub between : (i : ℕ) → 0 < i → i < 16 → at r i ≡ f (at marks i)
  pub ends : at r 16 ≡ next

-- the differences from each of 17 samples to the next
abbrev pub Apart : List Float → List Float → Type 0
Apart samples r = (i : ℕ) → i < 16 → at r i ≡ sub binary32 (at samples (i + 1)) (at samples i)
