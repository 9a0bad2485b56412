-- A scan of a list from a place on, past every element that a test passes. Places count from 0. Definitions only.
use Rattle.std.specs.Prelude.{ℕ, suc, ◌+◌, Bool, cond, List, [], ◌∷◌, drop}

-- how many elements stand before the first that the test fails
unfoldable pub leading : {A : Type 0} → (A → Bool) → List A → ℕ
leading test [] = 0
leading test (x ∷ xs) = cond (test x) (suc (leading test xs)) 0

-- the place of the first element from `at` on that the test fails, or the list's length; past the list, `at` itself
unfoldable pub scan : {A : Type 0} → (A → Bool) → List A → ℕ → ℕ
scan test xs at = at + leading test (drop at xs)
