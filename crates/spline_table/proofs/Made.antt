-- What an accepted call tells: the points are an even list of at most 4,096, there was room, and the entries are a sound table of f32 values: it starts at 0, is finite and never
-- falls. Assumes nothing.
use mathlib.Core.Path.{◌≡◌, refl, sym, ap, ◌∙◌, subst}
use mathlib.Core.Bool.{Bool, true, false, cond}
use mathlib.Core.List.{List}
use Prim.Native.Nat.{ℕ, ◌+◌, ◌≤◌}
use native.Mathlib.Omega.{arith}
use borrow.Author.Tests.{ltb-false}
use lib.Dec.{T, ltb}
use lib.ListN.{length}
use lib.Ieee.{Float, binary32, fits}
use lib.Ieee.Scale.{finite}
use Rattle.answers.specs.declared.refusals.Values.TheVariants.{One}
use Rattle.answers.specs.declared.refusals.Refusal.{Refusal}
use Rattle.answers.specs.declared.refusals.Refusal.TheVariants.{BadList, Range, NotFinite, NoRoom}
use Rattle.floats.proofs.Tests.{passed}
use Rattle.table.specs.Lookup.{at, last_of}
use Rattle.table.specs.Sound.{table_is_sound}
use Rattle.table.specs.Sums.{sum_of}
use Rattle.table_order.specs.Stated.{F32Table}
use Rattle.table_samples.specs.Samples.{lengths_of, total_of}
use Rattle.table_samples.proofs.Made.{made-sound, made-fits, made-count}
use Rattle.table_samples.proofs.Steps.{steps-count}
use Rattle.polyline.specs.Points.{count_of}
use Rattle.polyline.specs.Lengths.{first_not_finite}
use Rattle.polyline.specs.Judging.{is_odd}
use Rattle.polyline.proofs.FirstNotFinite.{finite-before}
use Rattle.spline.specs.Formula.{spline_sample_of}
use Rattle.spline_table.specs.Tables.{last_entry_of, spline_lengths_of, most_points, Outcome, entries, refusal, roomed, spline_table_of}

pub record Accepted (points : List Float) (room : ℕ) (stored : List Float) : Type 0 where
  pub even : is_odd points ≡ false
  pub few : count_of points ≤ most_points
  pub fine : length (spline_lengths_of points) ≤ first_not_finite (spline_lengths_of points)
  pub enough : length (spline_lengths_of points) ≤ room
  pub whole : stored ≡ spline_lengths_of points

-- ---- test by test
module _ (points stored : List Float) (room : ℕ) where
  never : (reason : Refusal) → refusal reason ≡ entries stored → ⊥
  never reason e = let z : ◌≡◌ {A = ℕ} 0 1 = cc in omega arith

  roomy : (lengths : List Float) (b : Bool) → ltb room (length lengths) ≡ b → cond b (refusal (NoRoom (One (length lengths)))) (entries lengths) ≡ entries stored → (length lengths ≤ room) × (stored ≡ lengths)
  roomy lengths true e f = absurd (never (NoRoom (One (length lengths))) f)
  roomy lengths false e f = (ltb-false room (length lengths) e, cc)

  finished : (lengths : List Float) (b : Bool) → ltb (first_not_finite lengths) (length lengths) ≡ b → roomed room (cond b (refusal (NotFinite (first_not_finite lengths))) (entries lengths)) ≡ entries stored
      → (length lengths ≤ first_not_finite lengths) × ((length lengths ≤ room) × (stored ≡ lengths))
  finished lengths true e f = absurd (never (NotFinite (first_not_finite lengths)) f)
  finished lengths false e f = (ltb-false (first_not_finite lengths) (length lengths) e, roomy lengths (ltb room (length lengths)) refl f)

  tested : (odd many : Bool) → is_odd points ≡ odd → ltb most_points (count_of points) ≡ many
      → (rest : Outcome) → cond odd (refusal (BadList (count_of points))) (cond many (refusal (Range (count_of points))) rest) ≡ entries stored
      → (is_odd points ≡ false) × ((count_of points ≤ most_points) × (rest ≡ entries stored))
  tested true many o m rest f = absurd (never (BadList (count_of points)) f)
  tested false true o m rest f = absurd (never (Range (count_of points)) f)
  tested false false o m rest f = (o, (ltb-false most_points (count_of points) m, f))

  pub accepted-when : spline_table_of points room ≡ entries stored → Accepted points room stored
  unfolding spline_table_of
  accepted-when e =
      let t = tested (is_odd points) (ltb most_points (count_of points)) refl refl _ e in
      let f = finished (spline_lengths_of points) (ltb (first_not_finite (spline_lengths_of points)) (length (spline_lengths_of points))) refl t.1.1 in
      record { even = t.0; few = t.1.0; fine = f.0; enough = f.1.0; whole = f.1.1 }

-- ---- the entries
pub entries-count : (points : List Float) → length (spline_lengths_of points) ≡ last_entry_of (count_of points) + 1
unfolding spline_lengths_of
entries-count points = made-count (spline_sample_of points) (last_entry_of (count_of points)) ∙ omega arith

last-is : (points : List Float) → last_of (spline_lengths_of points) ≡ last_entry_of (count_of points)
last-is points = omega (arith, entries-count points)

-- the total is the last entry
total-is : (points : List Float) → total_of (spline_sample_of points) (last_entry_of (count_of points)) ≡ at (spline_lengths_of points) (last_of (spline_lengths_of points))
unfolding total_of sum_of lengths_of spline_lengths_of
total-is points = ap (at (spline_lengths_of points)) (steps-count (spline_sample_of points) (last_entry_of (count_of points)) ∙ sym (last-is points))

abbrev pub LastOf : List Float → Float
LastOf xs = at xs (last_of xs)

module _ (points : List Float) (fine : length (spline_lengths_of points) ≤ first_not_finite (spline_lengths_of points)) where
  last-finite : T (finite (LastOf (spline_lengths_of points)))
  last-finite = passed (finite-before (spline_lengths_of points) (last_of (spline_lengths_of points)) (omega (arith, entries-count points, fine)))

  pub entries-sound : T (table_is_sound (spline_lengths_of points) (LastOf (spline_lengths_of points)))
  entries-sound =
      let total = total-is points in
      subst (λ (x : Float). T (table_is_sound (spline_lengths_of points) x)) total
      (unfold spline_lengths_of in made-sound (spline_sample_of points) (last_entry_of (count_of points)) (subst (λ (x : Float). T (finite x)) (sym total) last-finite))

  pub entries_fit : (k : ℕ) → T (fits binary32 (at (spline_lengths_of points) k))
  unfolding spline_lengths_of
  entries_fit k = made-fits (spline_sample_of points) (last_entry_of (count_of points)) k

  pub entries-table : count_of points ≤ most_points → F32Table (spline_lengths_of points) (LastOf (spline_lengths_of points))
  entries-table few = record {
    table = record { sound = entries-sound; counted = omega (arith, entries-count points) };
    values = entries_fit;
    total-value = entries_fit (last_of (spline_lengths_of points));
  }

-- a table that was made is sound
pub made_table : (points : List Float) (room : ℕ) (stored : List Float) → spline_table_of points room ≡ entries stored → F32Table stored (LastOf stored)
made_table points room stored e =
    let a = accepted-when points stored room e in
    subst (λ (xs : List Float). F32Table xs (LastOf xs)) (sym a.whole) (entries-table points a.fine a.few)
