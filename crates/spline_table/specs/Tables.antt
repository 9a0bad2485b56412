-- The table of a spline (document 01, "Points and shapes" and "The answers"; source document 001, bezier.rs, `build_table`). Points are a list of numbers, x before y; entries count
-- from 0 and are running lengths in path units. Definitions only.
use Rattle.std.specs.Prelude.{ℕ, ◌-◌, ◌*◌, ◌≤◌, ◌<◌, ◌≡◌, cond, List, [], ◌∷◌, ltb, length, Float, Result, Ok, Err}
use Rattle.answers.specs.Answers.{Answer, refused, accepted}
use Rattle.answers.specs.Report.{written}
use Rattle.answers.specs.declared.refusals.Values.TheVariants.{One}
use Rattle.answers.specs.declared.refusals.Refusal.{Refusal}
use Rattle.answers.specs.declared.refusals.Refusal.TheVariants.{BadList, Range, NotFinite, NoRoom}
use Rattle.table_samples.specs.Samples.{lengths_of}
use Rattle.polyline.specs.Points.{count_of}
use Rattle.polyline.specs.Lengths.{first_not_finite}
use Rattle.polyline.specs.Judging.{is_odd}
use Rattle.spline.specs.Formula.{spline_sample_of}

-- ---- the entries

-- "Spline table: 16 entries per span plus one, a single 0 below two points.": the number of the last entry, by how many points there are
abbrev pub last_entry_of : ℕ → ℕ
last_entry_of points = 16 * (points - 1)

-- the running lengths of the samples, the sample i at i/n where n is the number of the last entry
unfoldable pub spline_lengths_of : List Float → List Float
spline_lengths_of points = lengths_of (spline_sample_of points) (last_entry_of (count_of points))

-- ---- what is refused

-- "points above 4,096"
abbrev pub most_points : ℕ
most_points = 4096

-- what making a table comes to
pub data Outcome : Type 0 where
  entries : List Float → Outcome
  refusal : Refusal → Outcome

-- 11, with the "first such .. spline entry"
abbrev pub measured : List Float → Outcome
measured lengths = cond (ltb (first_not_finite lengths) (length lengths)) (refusal (NotFinite (first_not_finite lengths))) (entries lengths)

-- 8: "all else is right and a lent output is too short", with "the count needed of each output"
abbrev pub roomed : ℕ → Outcome → Outcome
roomed room (entries lengths) = cond (ltb room (length lengths)) (refusal (NoRoom (One (length lengths)))) (entries lengths)
roomed room (refusal reason) = refusal reason

-- "For points: 9, 13 .., 11, 8"; 9 carries "half the count rounded down", 13 "the number"
unfoldable pub spline_table_of : List Float → ℕ → Outcome
spline_table_of points room =
    cond (is_odd points) (refusal (BadList (count_of points)))
    (cond (ltb most_points (count_of points)) (refusal (Range (count_of points)))
    (roomed room (measured (spline_lengths_of points))))

-- ---- what the two passes ask: points that were judged, and the number of their last entry; the second one, room for the entries
pub record Sampled (points : List Float) (last : ℕ) : Type 0 where
  pub few : count_of points ≤ most_points
  pub counted : last ≡ last_entry_of (count_of points)

pub record Roomy (points : List Float) (last : ℕ) (table : List Float) : Type 0 where
  pub sampled : Sampled points last
  pub room : last < length table

-- ---- in document 01's terms

-- the number and the values of each case
abbrev pub answer_of : Result ℕ Refusal → Answer
answer_of (Ok count) = accepted (count ∷ [])
answer_of (Err reason) = refused reason

-- an accepted call answers with the count of the entries
abbrev pub answered : Outcome → Answer
answered (entries lengths) = accepted (length lengths ∷ [])
answered (refusal reason) = refused reason

-- "A refusal writes to no output. An accepted call writes the counted places from each output's start and no others."
abbrev pub places_of : Outcome → List Float
places_of (entries lengths) = lengths
places_of (refusal reason) = []

pub record SplineTable (points before : List Float) (r : Result ℕ Refusal) (after : List Float) : Type 0 where
  pub answer : answer_of r ≡ answered (spline_table_of points (length before))
  pub places : after ≡ written (places_of (spline_table_of points (length before))) before
