-- No distance is below 0, so that the table of any formula is sound where its total is finite; and its entries are f32 values. Assumes nothing.
use mathlib.Core.Path.{◌≡◌, sym, ap, ◌∙◌, subst}
use mathlib.Core.Logic.{inl, inr}
use mathlib.Core.Bool.{not}
use Prim.Native.Nat.{ℕ, zero, suc, ◌<◌}
use mathlib.Core.List.{List, [], ◌∷◌}
use lib.ListN.{length}
use lib.Dec.{T}
use lib.Ieee.{Float, nan, inf, fin, binary32, add, fits, is_nan, lt}
use lib.Ieee.Bits.{of_bits-fits}
use lib.Ieee.Fits.{add-fits, nan-fits}
use lib.Ieee.Scale.{finite}
use Rattle.floats.specs.Floats.{zero_f}
use Rattle.floats.proofs.Tests.{decide}
use Rattle.floats.proofs.Order.{le→not-lt}
use Rattle.lengths.specs.Length as lengths
use Rattle.lengths.proofs.Laws.{length-not-below-zero}
use Rattle.math.specs.declared.points.Point.{Point}
use Rattle.math.specs.Math.{length_of, distance_of}
use Rattle.table.specs.Lookup.{at}
use Rattle.table.specs.Sound.{table_is_sound}
use Rattle.table.specs.Sums.{sums_from, running_sums, sum_of}
use Rattle.table.proofs.Sums.{running-length, sums-sound}
use Rattle.table_samples.specs.Samples.{sample_at, steps_of, lengths_of, total_of}
use Rattle.table_samples.proofs.Steps.{steps-count, step_is}

-- ---- no length is below 0
nan-not-below : (x y : Float) → T (is_nan x) → T (not (lt x y))
unfolding is_nan lt
nan-not-below nan y h = tt
nan-not-below (inf _) y h = elim h [ ]
nan-not-below (fin _ _ _) y h = elim h [ ]

length-not-below : (x y : Float) → T (not (lt (lengths.length_of x y) zero_f))
unfolding zero_f
length-not-below x y = elim (decide (is_nan (lengths.length_of x y))) [
  | inl h ↦ nan-not-below (lengths.length_of x y) zero_f h
  | inr h ↦ le→not-lt zero_f (lengths.length_of x y) (length-not-below-zero x y h)
]

pub distance-not-below : (a b : Point) → T (not (lt (distance_of a b) zero_f))
unfolding distance_of length_of
distance-not-below a b = length-not-below _ _

-- ---- so that the sums are a sound table
module _ (formula : Float → Point) (n : ℕ) where
  step-not-below : (k : ℕ) → k < length (steps_of formula n) → T (not (lt (at (steps_of formula n) k) zero_f))
  step-not-below k h = subst (λ (x : Float). T (not (lt x zero_f))) (sym (step_is formula n k (subst (λ (m : ℕ). k < m) (steps-count formula n) h))) (distance-not-below (sample_at formula n k) (sample_at formula n (suc k)))

  pub made-sound : T (finite (total_of formula n)) → T (table_is_sound (lengths_of formula n) (total_of formula n))
  unfolding lengths_of total_of
  made-sound h = sums-sound (steps_of formula n) step-not-below h

-- ---- each entry is a value of binary32: a sum, or 0
zero-fits : T (fits binary32 zero_f)
unfolding zero_f
zero-fits = of_bits-fits binary32 0

sums-fit : (start : Float) (steps : List Float) (k : ℕ) → T (fits binary32 start) → T (fits binary32 (at (sums_from start steps) k))
unfolding sums_from
sums-fit start [] zero h = h
sums-fit start [] (suc k) h = nan-fits binary32
sums-fit start (step ∷ steps) zero h = h
sums-fit start (step ∷ steps) (suc k) h = sums-fit (add binary32 start step) steps k (add-fits binary32 start step)

module _ (formula : Float → Point) (n : ℕ) where
  pub made-fits : (k : ℕ) → T (fits binary32 (at (lengths_of formula n) k))
  unfolding lengths_of running_sums
  made-fits k = sums-fit zero_f (steps_of formula n) k zero-fits

  pub made-total-fits : T (fits binary32 (total_of formula n))
  unfolding total_of sum_of running_sums
  made-total-fits = sums-fit zero_f (steps_of formula n) (length (steps_of formula n)) zero-fits

  pub made-count : length (lengths_of formula n) ≡ suc n
  unfolding lengths_of
  made-count = running-length (steps_of formula n) ∙ ap suc (steps-count formula n)
