-- A number of a table is between bounds that all of them keep, which is computed. Assumes nothing.
use Rattle.std.proofs.Common.{◌≡◌, ℕ, zero, suc, ◌≤◌, ◌<◌, Bool, true, false, ◌&&◌, List, [], ◌∷◌, length, get_or, refl, arith}
use borrow.Author.Tests.{ltb-true, leb-true}
use lib.Dec.{leb, ltb}

abbrev pub all_within : ℕ → ℕ → List ℕ → Bool
all_within low limit [] = true
all_within low limit (x ∷ xs) = leb low x && (ltb x limit && all_within low limit xs)

both : (a b : Bool) → (a && b) ≡ true → (a ≡ true) × (b ≡ true)
both true b h = (refl, h)
both false b h = cc

pub within-at : (low limit : ℕ) (xs : List ℕ) → all_within low limit xs ≡ true → (i : ℕ) → i < length xs → (low ≤ get_or xs i 0) × (get_or xs i 0 < limit)
within-at low limit [] t i h = absurd (omega arith)
within-at low limit (x ∷ xs) t zero h =
    let b = both (leb low x) _ t in
    (leb-true low x b.0, ltb-true x limit (both (ltb x limit) _ b.1).0)
within-at low limit (x ∷ xs) t (suc i) h =
    within-at low limit xs (both (ltb x limit) _ (both (leb low x) _ t).1).1 i (omega arith)
