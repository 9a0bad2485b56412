-- A float less itself is 0 exactly where it is finite. Assumes nothing.
use mathlib.Core.Path.{◌≡◌, refl, sym, ap, ◌∙◌}
use mathlib.Core.Bool.{Bool, true, false, not}
use Prim.Native.Nat.{ℕ, ◌*◌, ◌<◌}
use native.Mathlib.Nat.{zero-mul, sub_self, mul-pos, le_refl, zero-lt-suc}
use borrow.Author.Tests.{le-ltb}
use lib.Dec.{ltb}
use lib.Ieee.{Float, nan, inf, fin, binary32, up, down, of_bits, round, sum, sub, eq}
use lib.Ieee.Fits.{down_pos}
use lib.Ieee.Scale.{finite, round_same}

-- ---- a sum that is exactly zero
zero-of-one : round binary32 false 0 1 ≡ of_bits binary32 0
unfolding round of_bits
zero-of-one = refl

round-zero : (c : ℕ) → 0 < c → round binary32 false 0 c ≡ of_bits binary32 0
round-zero c h = round_same binary32 false 0 c 0 1 h (zero-lt-suc 0) (zero-mul 1 ∙ sym (zero-mul c)) ∙ zero-of-one

not-below-itself : (a : ℕ) → ltb a a ≡ false
not-below-itself a = le-ltb a a (le_refl a)

sum_self : (s : Bool) (a c : ℕ) → 0 < c → sum binary32 s a (not s) a c ≡ of_bits binary32 0
unfolding sum
sum_self true a c h = simp (not-below-itself, sub_self) (round-zero c h)
sum_self false a c h = simp (not-below-itself, sub_self) (round-zero c h)

zero-is-zero : eq (of_bits binary32 0) (of_bits binary32 0) ≡ true
unfolding eq of_bits
zero-is-zero = refl

pub less-itself : (x : Float) → eq (sub binary32 x x) (of_bits binary32 0) ≡ finite x
unfolding sub eq
less-itself nan = refl
less-itself (inf true) = refl
less-itself (inf false) = refl
less-itself (fin s m e) =
    ap (λ (z : Float). eq z (of_bits binary32 0)) (sum_self s (m * up e * down e) (down e * down e) (mul-pos (down_pos e) (down_pos e))) ∙ zero-is-zero
