-- One more difference in a row, and the difference of two samples. Assumes nothing.
use mathlib.Core.Path.{◌≡◌, ap, ◌∙◌}
use Prim.Native.Nat.{ℕ, suc, ◌+◌, ◌<◌}
use native.Mathlib.Numerals.{add-one}
use native.Mathlib.Omega.{arith}
use mathlib.Core.List.{List}
use lib.ListN.{get_or, set}
use lib.Ieee.{Float, nan, binary32, sub}
use Rattle.lengths.proofs.Lists.{Passing, passing-more}
use Rattle.bezier.specs.Rows.{sample_mark}

-- v is the difference of a coordinate from sample k to the next
abbrev pub Difference : (Float → Float) → ℕ → Float → Type 0
Difference coordinate k v = v ≡ sub binary32 (coordinate (sample_mark (suc k))) (coordinate (sample_mark k))

module _ (coordinate : Float → Float) {row : List Float} {n k : ℕ} where
  pub row_more : Passing (Difference coordinate) row n k → k < n → (next here : Float)
      → next ≡ coordinate (sample_mark (k + 1)) → here ≡ coordinate (sample_mark k)
      → Passing (Difference coordinate) (set row k (sub binary32 next here)) n (k + 1)
  row_more s inside next here en eh =
      passing-more s inside _ (ap (λ (z : Float). sub binary32 z here) (en ∙ ap (λ (i : ℕ). coordinate (sample_mark i)) (add-one k)) ∙ ap (sub binary32 (coordinate (sample_mark (suc k)))) eh)

-- v is a coordinate of sample k
abbrev pub Sample : (Float → Float) → ℕ → Float → Type 0
Sample coordinate k v = v ≡ coordinate (sample_mark k)

module _ (coordinate : Float → Float) (samples : List Float) (k : ℕ) {n : ℕ} where
  pub difference-of : ((j : ℕ) → j < n → Sample coordinate j (get_or samples j nan)) → k + 1 < n
      → Difference coordinate k (sub binary32 (get_or samples (k + 1) nan) (get_or samples k nan))
  difference-of s h =
      ap (λ (z : Float). sub binary32 z (get_or samples k nan)) (s (k + 1) h ∙ ap (λ (i : ℕ). coordinate (sample_mark i)) (add-one k))
      ∙ ap (sub binary32 (coordinate (sample_mark (suc k)))) (s k (omega (arith, h)))
