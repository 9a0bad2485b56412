-- The points that both shapes have, and the default resolution. Assumes nothing.
use Prim.Native.Nat.{ℕ, ◌≤◌, ◌<◌, max}
use native.Mathlib.Nat.{min-le_left, min-le_right, le-max_left, max-eq_left, max-eq_right}
use native.Mathlib.Omega.{arith}
use mathlib.Core.Path.{◌≡◌, sym, ◌∙◌}
use mathlib.Core.List.{List}
use borrow.Author.Tests.{le-ltb}
use lib.Ieee.{Float}
use Rattle.polyline.specs.Points.{count_of}
use Rattle.morph.specs.Shapes.{shared_of}
use Rattle.morph.specs.Morph.{larger_of, default_of, resolved}

module _ (from to : List Float) where
  pub shared_upto : shared_of from to ≤ count_of from
  unfolding shared_of
  shared_upto = min-le_left (count_of from) (count_of to)

  pub shared_upto_second : shared_of from to ≤ count_of to
  unfolding shared_of
  shared_upto_second = min-le_right (count_of from) (count_of to)

  -- ---- the default: 128 where the larger shape has fewer points, else as many as that has

  pub default-least : (count : ℕ) → count ≡ larger_of from to → count < 128 → 128 ≡ default_of from to
  unfolding default_of
  default-least count e h = sym (max-eq_left (let g : larger_of from to ≤ 128 = omega arith in g))

  pub default-larger : (count : ℕ) → count ≡ larger_of from to → 128 ≤ count → count ≡ default_of from to
  unfolding default_of
  default-larger count e h = e ∙ sym (max-eq_right (let g : 128 ≤ larger_of from to = omega arith in g))

  -- it is at least 2, so stating it changes nothing
  pub default-resolved : resolved (default_of from to) ≡ default_of from to
  unfolding default_of
  default-resolved = rw (le-ltb (max 128 (larger_of from to)) 2 (least (le-max_left 128 (larger_of from to))))
    where
      least : {n : ℕ} → 128 ≤ n → 2 ≤ n
      least h = omega arith

-- `using` takes no name with a dash
pub ruleset default_stated = (default-resolved)
