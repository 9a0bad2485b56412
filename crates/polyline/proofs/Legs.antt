-- Legs and running lengths by index; and where the last length is finite, they are a sound table. Assumes nothing.
use mathlib.Core.Path.{◌≡◌, refl, sym, ap, ◌∙◌, subst}
use Prim.Native.Nat.{ℕ, zero, suc, ◌+◌, ◌-◌, ◌<◌}
use native.Mathlib.Nat.{le_of_suc-le-suc, not-suc-le-zero, add-zero, zero-add}
use native.Mathlib.Omega.{arith}
use mathlib.Core.Bool.{not}
use mathlib.Core.List.{List}
use lib.Dec.{T}
use lib.ListN.{length}
use lib.Ieee.{Float, binary32, add, lt}
use lib.Ieee.Scale.{finite}
use Rattle.floats.specs.Floats.{zero_f}
use Rattle.table.specs.Lookup.{at}
use Rattle.table.specs.Sound.{table_is_sound}
use Rattle.table.specs.Sums.{running_sums, sum_of}
use Rattle.table.proofs.Sums.{running-length, running-first, running-next, sums-sound}
use Rattle.table_samples.proofs.Made.{distance-not-below}
use Rattle.polyline.specs.Points.{count_of, point_at}
use Rattle.polyline.specs.Lengths.{leg_of, legs_from, legs_of, lengths_of, total_of}

legs-length : (points : List Float) (k i : ℕ) → length (legs_from points k i) ≡ k
unfolding legs_from
legs-length points zero i = refl
legs-length points (suc k) i = ap suc (legs-length points k (suc i))

leg-at : (points : List Float) (k i j : ℕ) → j < k → at (legs_from points k i) j ≡ leg_of points (i + j)
unfolding legs_from
leg-at points zero i j h = absurd (not-suc-le-zero h)
leg-at points (suc k) i zero h = ap (leg_of points) (sym (add-zero i))
leg-at points (suc k) i (suc j) h = leg-at points k (suc i) j (le_of_suc-le-suc h) ∙ ap (leg_of points) (let e : suc i + j ≡ i + suc j = omega arith in e)

module _ (points : List Float) where
  pub legs-count : length (legs_of points) ≡ count_of points - 1
  unfolding legs_of
  legs-count = legs-length points (count_of points - 1) 0

  pub leg-is : (j : ℕ) → j < count_of points - 1 → at (legs_of points) j ≡ leg_of points j
  unfolding legs_of
  leg-is j h = leg-at points (count_of points - 1) 0 j h ∙ ap (leg_of points) (zero-add j)

  pub lengths-count : length (lengths_of points) ≡ suc (count_of points - 1)
  unfolding lengths_of
  lengths-count = running-length (legs_of points) ∙ ap suc legs-count

  pub lengths-first : at (lengths_of points) 0 ≡ zero_f
  unfolding lengths_of
  lengths-first = running-first (legs_of points)

  -- the next running length has one leg more
  pub lengths-next : (j : ℕ) → j < count_of points - 1 → at (lengths_of points) (suc j) ≡ add binary32 (at (lengths_of points) j) (leg_of points j)
  unfolding lengths_of
  lengths-next j h = running-next (legs_of points) j (subst (λ (n : ℕ). j < n) (sym legs-count) h) ∙ ap (add binary32 (at (running_sums (legs_of points)) j)) (leg-is j h)

  pub total-is : at (lengths_of points) (count_of points - 1) ≡ total_of points
  unfolding lengths_of total_of sum_of
  total-is = ap (at (running_sums (legs_of points))) (sym legs-count)

  leg-not-below : (k : ℕ) → k < length (legs_of points) → T (not (lt (at (legs_of points) k) zero_f))
  unfolding leg_of
  leg-not-below k h = subst (λ (x : Float). T (not (lt x zero_f))) (sym (leg-is k (subst (λ (n : ℕ). k < n) legs-count h))) (distance-not-below (point_at points k) (point_at points (suc k)))

  pub lengths-sound : T (finite (total_of points)) → T (table_is_sound (lengths_of points) (total_of points))
  unfolding lengths_of total_of
  lengths-sound h = sums-sound (legs_of points) leg-not-below h
