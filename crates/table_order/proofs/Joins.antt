-- What the third part of a way, which joins an entry and a share to a parameter, has to keep (Steady.antt has the other two). Definitions only.
use Prim.Native.Nat.{ℕ, suc, ◌<◌}
use lib.Dec.{T}
use lib.Ieee.{Float, le}
use Rattle.floats.specs.Floats.{zero_f, one_f}

-- a share
pub record Part (x : Float) : Type 0 where
  pub low : T (le zero_f x)
  pub high : T (le x one_f)

-- the parameter of a share after the entry k, in a table whose last entry is n
pub record Joins (n : ℕ) (join : ℕ → Float → Float) : Type 0 where
  pub low : (k : ℕ) (x : Float) → k < n → Part x → T (le zero_f (join k x))
  pub high : (k : ℕ) (x : Float) → k < n → Part x → T (le (join k x) one_f)
  pub grows : (k : ℕ) (x y : Float) → k < n → Part x → Part y → T (le x y) → T (le (join k x) (join k y))
  pub meets : (k : ℕ) → suc k < n → T (le (join k one_f) (join (suc k) zero_f))
