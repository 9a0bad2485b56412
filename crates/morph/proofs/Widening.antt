-- One more point widens the bounds of those before it. Assumes nothing.
use Prim.Native.Nat.{ℕ, zero, suc, ◌+◌, ◌≤◌}
use native.Mathlib.Nat.{not-suc-le-zero}
use native.Mathlib.Numerals.{add-one}
use mathlib.Core.Path.{◌≡◌, sym, ap}
use mathlib.Core.List.{List}
use lib.Ieee.{Float}
use Rattle.morph.specs.Shapes.{between_at}
use Rattle.morph.specs.Bounds.{widened, bounds_of}

pub widened_once : (from to : List Float) (along : Float) (i : ℕ) → 1 ≤ i → widened (bounds_of from to along i) (between_at from to along i) ≡ bounds_of from to along (i + 1)
unfolding bounds_of
widened_once from to along zero h = absurd (not-suc-le-zero h)
widened_once from to along (suc k) h = ap (bounds_of from to along) (sym (add-one (suc k)))
