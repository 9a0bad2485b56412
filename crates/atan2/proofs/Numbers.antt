-- Floats that are no NaN, and bits that are none of one. Assumes nothing.
use mathlib.Core.Path.{◌≡◌, refl, sym, subst}
use Prim.Native.Nat.{ℕ, ◌%◌, ◌≤◌}
use native.Mathlib.Nat.{le_trans}
use mathlib.Core.Bool.{Bool, false, not}
use lib.Dec.{T, lit≤}
use lib.Ieee.{Float, nan, inf, fin, binary32, is_nan, ne, nan_bits}
use lib.Ieee.Compare.{nan_differs}
use Rattle.decimal_rounding.proofs.Wide.{no-nan-plain}
use Rattle.floats.specs.Patterns.{sign_place}

pub is_number : (x : Float) → ne x x ≡ false → is_nan x ≡ false
unfolding is_nan
is_number nan h = cc nan_differs
is_number (inf s) h = refl
is_number (fin s m e) h = refl

pub no_nan : (x : Float) → is_nan x ≡ false → T (not (is_nan x))
no_nan x h = subst (λ (b : Bool). T (not b)) (sym h) tt

pub no-nan-bits : (b : ℕ) → b % sign_place ≤ 1078530011 → T (not (nan_bits binary32 b))
no-nan-bits b h = no-nan-plain binary32 b (le_trans h (lit≤ tt))
