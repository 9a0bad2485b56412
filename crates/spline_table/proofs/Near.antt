-- The test of every number, one by one. Assumes nothing.
use mathlib.Core.Path.{◌≡◌, refl, ap, ◌∙◌}
use mathlib.Core.Bool.{Bool, true, false, ◌&&◌}
use mathlib.Core.List.{List, [], ◌∷◌}
use Prim.Native.Nat.{ℕ, zero, suc, ◌+◌, ◌≤◌, ◌<◌}
use native.Mathlib.Nat.{le_of_suc-le-suc, not-suc-le-zero}
use native.Mathlib.Numerals.{add-one}
use lib.Dec.{T}
use lib.ListN.{length, drop, drop_of_length-le}
use lib.Seq.{drop-cons}
use lib.Ieee.{Float, nan}
use lib.Ieee.Fits.{and_l, and_r}
use Rattle.table.specs.Lookup.{at}
use Rattle.spline_table.specs.Near.{every}

module _ (test : Float → Bool) where
  -- ---- the numbers from i on, joined to a flag
  assoc : (a b c : Bool) → (a && (b && c)) ≡ ((a && b) && c)
  assoc true b c = refl
  assoc false b c = refl

  ending : (a : Bool) → a ≡ (a && true)
  ending true = refl
  ending false = refl

  module _ (numbers : List Float) (i : ℕ) where
    here : i < length numbers → every test (drop i numbers) ≡ (test (at numbers i) && every test (drop (i + 1) numbers))
    unfolding every
    here inside = rw (add-one, drop-cons numbers i nan)

    pub every-next : (all : Bool) → i < length numbers → (all && every test (drop i numbers)) ≡ ((all && test (at numbers i)) && every test (drop (i + 1) numbers))
    every-next all inside = ap (λ (b : Bool). all && b) (here inside) ∙ assoc all (test (at numbers i)) (every test (drop (i + 1) numbers))

    pub every-end : (all : Bool) → length numbers ≤ i → all ≡ (all && every test (drop i numbers))
    unfolding every
    every-end all past = rw (drop_of_length-le numbers past) (ending all)

  -- ---- each of them
  pub every-at : (numbers : List Float) → T (every test numbers) → (i : ℕ) → i < length numbers → T (test (at numbers i))
  unfolding every
  every-at [] h i inside = absurd (not-suc-le-zero inside)
  every-at (own ∷ numbers) h zero inside = and_l (test own) (every test numbers) h
  every-at (own ∷ numbers) h (suc i) inside = every-at numbers (and_r (test own) (every test numbers) h) i (le_of_suc-le-suc inside)
