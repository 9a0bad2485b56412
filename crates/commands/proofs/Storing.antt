-- Numbers that are stored in several runs, one right after the other, are stored as one. Assumes nothing.
use Prim.Native.Nat.{ℕ, suc, ◌+◌}
use mathlib.Core.Path.{◌≡◌, refl, ap, ◌∙◌}
use mathlib.Core.Bool.{Bool}
use mathlib.Core.List.{List, [], ◌∷◌, ◌++◌}
use native.Mathlib.Omega.{arith}
use native.Mathlib.Numerals.{add-one}
use lib.Ieee.{Float}
use lib.ListN.{length, set}
use lib.Seq.{sets}
use Rattle.commands.specs.Stored.{flag_of}

sets-on : (l : List Float) (i j : ℕ) (vs ws : List Float) → j ≡ i + length vs → sets (sets l i vs) j ws ≡ sets l i (vs ++ ws)
sets-on l i j [] ws e = ap (λ k. sets l k ws) (let f : j ≡ i = omega arith in f)
sets-on l i j (v ∷ vs) ws e = sets-on (set l i v) (suc i) j vs ws (omega arith)

module _ (l : List Float) (i : ℕ) where
  -- a run right after another
  pub then-put : (vs ws : List Float) {l₁ l₂ : List Float} {j : ℕ} → l₁ ≡ sets l i vs → j ≡ i + length vs → l₂ ≡ sets l₁ j ws → l₂ ≡ sets l i (vs ++ ws)
  then-put vs ws {j = j} e f g = g ∙ ap (λ m. sets m j ws) e ∙ sets-on l i j vs ws f

  pub two-put : (x y x' y' : Float) → x' ≡ x → y' ≡ y → set (set l i x') (i + 1) y' ≡ sets l i (x ∷ y ∷ [])
  two-put x y x' y' e f = rw (e, f, add-one)

  pub four-put : (a b c d : Float) (l₁ l₂ : List Float) → l₁ ≡ sets l i (a ∷ b ∷ []) → l₂ ≡ sets l₁ (i + 2) (c ∷ d ∷ []) → l₂ ≡ sets l i (a ∷ b ∷ c ∷ d ∷ [])
  four-put a b c d l₁ l₂ e f = then-put (a ∷ b ∷ []) (c ∷ d ∷ []) e refl f

  pub six-put :
      (a b c d x y : Float) {l₁ l₂ l₃ : List Float}
      → l₁ ≡ sets l i (a ∷ b ∷ []) → l₂ ≡ sets l₁ (i + 2) (c ∷ d ∷ []) → l₃ ≡ sets l₂ (i + 4) (x ∷ y ∷ [])
      → l₃ ≡ sets l i (a ∷ b ∷ c ∷ d ∷ x ∷ y ∷ [])
  six-put a b c d x y {l₁} {l₂} e f g = then-put (a ∷ b ∷ c ∷ d ∷ []) (x ∷ y ∷ []) (four-put a b c d l₁ l₂ e f) refl g

  pub arc-put :
      (a b r x y : Float) (large sweep : Bool) {f g z : Float} {l₁ l₂ l₃ : List Float}
      → l₁ ≡ sets l i (a ∷ b ∷ []) → l₂ ≡ sets l₁ (i + 2) (r ∷ f ∷ []) → l₃ ≡ sets l₂ (i + 4) (g ∷ x ∷ [])
      → f ≡ flag_of large → g ≡ flag_of sweep → z ≡ y
      → set l₃ (i + 6) z ≡ sets l i (a ∷ b ∷ r ∷ flag_of large ∷ flag_of sweep ∷ x ∷ y ∷ [])
  arc-put a b r x y large sweep {f} {g} {z} e₁ e₂ e₃ ef eg ez =
      then-put (a ∷ b ∷ r ∷ f ∷ g ∷ x ∷ []) (z ∷ []) {j = i + 6} (six-put a b r f g x e₁ e₂ e₃) refl refl
      ∙ ap (λ m. sets l i (a ∷ b ∷ r ∷ m ∷ g ∷ x ∷ z ∷ [])) ef
      ∙ ap (λ m. sets l i (a ∷ b ∷ r ∷ flag_of large ∷ m ∷ x ∷ z ∷ [])) eg
      ∙ ap (λ m. sets l i (a ∷ b ∷ r ∷ flag_of large ∷ flag_of sweep ∷ x ∷ m ∷ [])) ez
