-- What the segments before one have in all: one segment more, bounds, and room for each. Assumes nothing.
use Prim.Native.Nat.{ℕ, zero, suc, ◌+◌, ◌*◌, ◌≤◌, ◌<◌}
use mathlib.Core.Path.{◌≡◌, refl, ◌∙◌}
use mathlib.Core.List.{List, [], ◌∷◌}
use native.Mathlib.Nat.{not-suc-le-zero, le_of_suc-le-suc, add-zero, zero-add}
use native.Mathlib.Numerals.{add-one}
use native.Mathlib.Omega.{arith}
use lib.ListN.{length, get_or}
use Rattle.path_segment.specs.Segments.{tables_of}
use Rattle.path_segment.proofs.Widths.{tables-most}
use Rattle.path_stored.specs.Stored.{before}

pub before-zero : (f : ℕ → ℕ) (kinds : List ℕ) → before f kinds 0 ≡ 0
unfolding before
before-zero f [] = refl
before-zero f (kind ∷ kinds) = refl

before-next : (f : ℕ → ℕ) (kinds : List ℕ) (i : ℕ) → i < length kinds → before f kinds (suc i) ≡ before f kinds i + f (get_or kinds i 0)
unfolding before
before-next f [] i h = absurd (not-suc-le-zero h)
before-next f (k ∷ []) zero h = simp (add-zero, zero-add)
before-next f (k ∷ (l ∷ kinds)) zero h = simp (add-zero, zero-add)
before-next f (k ∷ kinds) (suc i) h = let r = before-next f kinds i (le_of_suc-le-suc h) in rw r (omega arith)

-- one segment more
pub sum_more : (f : ℕ → ℕ) (kinds : List ℕ) (i : ℕ) {n m : ℕ} → i < length kinds → n ≡ before f kinds i → m ≡ f (get_or kinds i 0) → n + m ≡ before f kinds (i + 1)
sum_more f kinds i {n} {m} h p q = rw (add-one, before-next f kinds i h, p, q) refl

-- where none has more than m
pub before-most : (f : ℕ → ℕ) (m : ℕ) → ((kind : ℕ) → f kind ≤ m) → (kinds : List ℕ) (i : ℕ) → before f kinds i ≤ m * i
unfolding before
before-most f m h [] i = omega arith
before-most f m h (k ∷ kinds) zero = omega arith
before-most f m h (k ∷ kinds) (suc i) = let r = before-most f m h kinds i in let s : m * suc i ≡ m + m * i = native.Mathlib.Nat.mul-suc m i ∙ native.Mathlib.Nat.add_comm (m * i) m in omega (arith, h k)

-- what a segment has lies within what all have
pub before-fits : (f : ℕ → ℕ) (kinds : List ℕ) (i : ℕ) → i < length kinds → before f kinds i + f (get_or kinds i 0) ≤ before f kinds (length kinds)
unfolding before
before-fits f [] i h = absurd (not-suc-le-zero h)
before-fits f (k ∷ kinds) zero h = omega arith
before-fits f (k ∷ kinds) (suc i) h = let r = before-fits f kinds i (le_of_suc-le-suc h) in omega arith

pub tables-at-most : (kinds : List ℕ) (i : ℕ) → before tables_of kinds i ≤ i
tables-at-most kinds i = omega (arith, before-most tables_of 1 tables-most kinds i)
