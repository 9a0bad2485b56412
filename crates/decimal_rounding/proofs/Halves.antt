-- A fraction in the lower or the upper half of a cell is rounded to its lower or its upper end, and at the middle to the even one. num / den is the
-- fraction, and the cell lies from q to q + 1 steps of 2 ^ k smallest values. Assumes nothing.
use Prim.Native.Nat.{ℕ, zero, suc, ◌+◌, ◌-◌, ◌*◌, ◌/◌, ◌%◌, ◌^◌, ◌≤◌, ◌<◌, compare, Ordering}
use mathlib.Core.Path.{◌≡◌, refl, ap, sym, ◌∙◌, subst}
use mathlib.Core.Logic.{◌⊎◌, inl, inr, ⊎_elim}
use mathlib.Core.Bool.{Bool, true, false, cond}
use native.Mathlib.Nat.{suc-mul, mul-pos}
use lib.Pow.{pow_pos}
use native.Mathlib.Omega.{arith}
use lib.Ieee.{Float, Format, prec, low, hid, nearest, units, round}
use Rattle.decimal_rounding.proofs.Cell.{cell}
use Rattle.decimal_rounding.proofs.Compares.{compare-lt, compare-eq, compare-gt}

module _ (f : Format) (s : Bool) (num den q k : ℕ) (d : 0 < den) (lt : q < 2 ^ prec f) (g : (hid f ≤ q) ⊎ (k ≡ 0)) where
  -- at the float or above it, and below the middle, or at it where q is even
  pub near_down : q * (den * 2 ^ k) ≤ num * 2 ^ low f
      → (2 * (num * 2 ^ low f) < 2 * (q * (den * 2 ^ k)) + den * 2 ^ k) ⊎ ((2 * (num * 2 ^ low f) ≡ 2 * (q * (den * 2 ^ k)) + den * 2 ^ k) × (q % 2 ≡ 0))
      → round f s num den ≡ units f s q k
  near_down a (inl b) =
      let n = num * 2 ^ low f in
      let u = den * 2 ^ k in
      let r = n - q * u in
      cell f s num den q k r d lt (omega arith) (omega arith) g ∙ ap (λ (o : Ordering). units f s (nearest q o) k) (compare-lt (r * 2) u (omega arith))
  near_down a (inr b) =
      let n = num * 2 ^ low f in
      let u = den * 2 ^ k in
      let r = n - q * u in
      let p : 0 < u = mul-pos d (pow_pos k) in
      cell f s num den q k r d lt (omega arith) (omega (arith, b.0)) g
      ∙ ap (λ (o : Ordering). units f s (nearest q o) k) (compare-eq (r * 2) u (omega (arith, b.0)))
      ∙ ap (λ (z : ℕ). units f s z k) (omega (arith, b.1))

  -- below the next float, and above the middle, or at it where q is odd
  pub near_up : num * 2 ^ low f < q * (den * 2 ^ k) + den * 2 ^ k
      → (2 * (q * (den * 2 ^ k)) + den * 2 ^ k < 2 * (num * 2 ^ low f)) ⊎ ((2 * (num * 2 ^ low f) ≡ 2 * (q * (den * 2 ^ k)) + den * 2 ^ k) × (q % 2 ≡ 1))
      → round f s num den ≡ units f s (suc q) k
  near_up a (inl b) =
      let n = num * 2 ^ low f in
      let u = den * 2 ^ k in
      let r = n - q * u in
      cell f s num den q k r d lt (omega arith) (omega arith) g ∙ ap (λ (o : Ordering). units f s (nearest q o) k) (compare-gt (r * 2) u (omega arith))
  near_up a (inr b) =
      let n = num * 2 ^ low f in
      let u = den * 2 ^ k in
      let r = n - q * u in
      cell f s num den q k r d lt (omega (arith, b.0)) (omega (arith, b.0)) g
      ∙ ap (λ (o : Ordering). units f s (nearest q o) k) (compare-eq (r * 2) u (omega (arith, b.0)))
      ∙ ap (λ (z : ℕ). units f s z k) (omega (arith, b.1))
