-- No running length of a spline through points within 2^40 is infinite or a NaN: the total is within n times 2^64, and no entry is above it. Assumes nothing.
use mathlib.Core.Path.{◌≡◌, refl}
use mathlib.Core.List.{List}
use mathlib.Core.Bool.{Bool, true, false}
use Prim.Native.Nat.{ℕ, zero, suc, ◌+◌, ◌≤◌, ◌<◌, ◌^◌}
use native.Mathlib.Nat.{le_refl}
use native.Mathlib.Omega.{arith}
use lib.Dec.{T}
use lib.ListN.{length}
use lib.Ieee.{Float}
use lib.Ieee.Fits.{and_l}
use lib.Ieee.Scale.{finite}
use Rattle.floats.specs.Floats.{zero_f}
use Rattle.table.specs.Lookup.{at}
use Rattle.table.specs.Sound.{all_finite, climbs, lengths_are_sound}
use Rattle.table.proofs.Lengths.{finite-at, table-lengths}
use Rattle.table_samples.specs.Samples.{lengths_of, total_of}
use Rattle.table_samples.proofs.Made.{made-sound, made-count}
use Rattle.polyline.specs.Points.{count_of}
use Rattle.polyline.specs.Lengths.{first_not_finite}
use Rattle.polyline.proofs.FirstNotFinite.{finite-more, finite-upto}
use Rattle.path_bounds.proofs.Lengths.{total-within}
use Rattle.spline.specs.Formula.{spline_sample_of}
use Rattle.spline_table.specs.Near.{all_near}
use Rattle.spline_table.proofs.Samples.{sample-near}

known : (b : Bool) → T b → b ≡ true
known true h = refl
known false h = absurd h

-- where each is finite, the first that is not is past the last
none_found : (xs : List Float) → ((k : ℕ) → k < length xs → T (finite (at xs k))) → (k : ℕ) → k ≤ length xs → k ≤ first_not_finite xs
none_found xs each zero h = omega arith
none_found xs each (suc k) h = finite-more xs k (none_found xs each k (omega arith)) (omega arith) (known (finite (at xs k)) (each k (omega arith)))

module _ (points : List Float) (n : ℕ) where
  entry-finite : T (finite (total_of (spline_sample_of points) n)) → (k : ℕ) → k < length (lengths_of (spline_sample_of points) n) → T (finite (at (lengths_of (spline_sample_of points) n) k))
  unfolding lengths_are_sound
  entry-finite whole =
      let entries = lengths_of (spline_sample_of points) n in
      finite-at entries (and_l (all_finite entries) (climbs zero_f entries) (table-lengths entries (total_of (spline_sample_of points) n) (made-sound (spline_sample_of points) n whole)))

  pub near-finite : T (all_near points) → count_of points ≤ 4096 → n < 2 ^ 24 → n + 1 ≡ first_not_finite (lengths_of (spline_sample_of points) n)
  near-finite near few counted =
      let formula = spline_sample_of points in
      let entries = lengths_of formula n in
      let total = total-within formula n 48 (omega arith) (sample-near points near few) counted in
      let upto = none_found entries (entry-finite total.whole) (length entries) (le_refl (length entries)) in
      omega (arith, finite-upto entries, made-count formula n)
