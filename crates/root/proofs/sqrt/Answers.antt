-- A float is the value of its bits, and those tell zeros, infinity, what is below zero and what `root_pattern` takes apart.
-- Assumes nothing.
use native.Mathlib.Omega.{arith}
use native.Mathlib.Decide.{dec_le}
use native.Mathlib.Nat.{lt_of_not-le, zero-mul, zero-div, zero-add, add_assoc}
use Prim.Native.Nat.{ℕ, zero, suc, ◌+◌, ◌%◌, ◌^◌, ◌≤◌, ◌<◌}
use mathlib.Core.Path.{◌≡◌, refl, sym, ap, subst, ◌∙◌}
use mathlib.Core.Logic.{◌⊎◌, inl, inr}
use mathlib.Core.Bool.{Bool, true, false, not}
use denote.Floats.{passes}
use lib.IntN.{ℤ}
use lib.Dec.{T, ltb, eqb-suc-zero, lt→ltb, ltb→lt, T_not, not_T}
use lib.Ieee.{Float, nan, inf, fin, binary32, is_nan, ne, neg, fits, to_bits, of_bits, nan_bits, div}
use lib.Ieee.Bits.{of_bits-to_bits, to_bits-lt, nan_bits_is, nan_bits_above}
use lib.Ieee.Compare.{differs_from_itself, nan_differs}
use lib.Ieee.Fits.{neg-fits}
use Rattle.root.specs.Root.{sqrt_of}
use Rattle.root.proofs.sqrt.Goals as goal

none : div binary32 (of_bits binary32 0) (of_bits binary32 0) ≡ nan
unfolding div of_bits
none = refl

-- ---- a NaN
is-nan : (x : Float) → ne x x ≡ true → x ≡ nan
is-nan x h = differs_from_itself x (subst T (sym h) tt)

is_number : (x : Float) → ne x x ≡ false → T (not (is_nan x))
unfolding is_nan
is_number nan h = let z : true ≡ false = sym nan_differs ∙ h in absurd (subst T z tt)
is_number (inf s) h = tt
is_number (fin s m e) h = tt

root-nan : (x : Float) → x ≡ nan → sqrt_of x ≡ nan
unfolding sqrt_of
root-nan x h = ap sqrt_of h

-- ---- zeros and infinity, by their bits
module _ (x : Float) (held : T (fits binary32 x)) where
  of-bits : (b : ℕ) → to_bits binary32 x ≡ b → of_bits binary32 b ≡ x
  of-bits b e = ap (of_bits binary32) (sym e) ∙ of_bits-to_bits binary32 x held

  at_bits : (b : ℕ) → to_bits binary32 x ≡ b → sqrt_of (of_bits binary32 b) ≡ of_bits binary32 b → sqrt_of x ≡ x
  at_bits b e h = subst (λ (y : Float). sqrt_of y ≡ y) (of-bits b e) h

plus-zero : sqrt_of (of_bits binary32 0) ≡ of_bits binary32 0
unfolding sqrt_of of_bits
plus-zero = refl

minus-zero : sqrt_of (of_bits binary32 0x80000000) ≡ of_bits binary32 0x80000000
unfolding sqrt_of of_bits
minus-zero = refl

infinity : sqrt_of (of_bits binary32 0x7F800000) ≡ of_bits binary32 0x7F800000
unfolding sqrt_of of_bits
infinity = refl

zero_bits : (b : ℕ) → b < 2 ^ 32 → b % 0x80000000 ≡ 0 → (b ≡ 0) ⊎ (b ≡ 0x80000000)
zero_bits b h k = elim (dec_le 1 b) [ yes g ↦ inr (omega arith) | no f ↦ let z : b < 1 = lt_of_not-le f in inl (omega arith) ]

root-zero : (x : Float) → T (fits binary32 x) → to_bits binary32 x % 0x80000000 ≡ 0 → sqrt_of x ≡ x
root-zero x held h = elim (zero_bits (to_bits binary32 x) (to_bits-lt binary32 x held) h) [ inl e ↦ at_bits x held 0 e plus-zero | inr e ↦ at_bits x held 0x80000000 e minus-zero ]

root-infinity : (x : Float) → T (fits binary32 x) → to_bits binary32 x ≡ 0x7F800000 → sqrt_of x ≡ x
root-infinity x held h = at_bits x held 0x7F800000 h infinity

-- ---- below zero: a number whose bits are above infinity's is none without a sign
module _ (x : Float) (held : T (fits binary32 x)) (number : T (not (is_nan x))) where
  bits-over : 0x7F800000 < to_bits binary32 x → 0x80000000 ≤ to_bits binary32 x
  bits-over h = elim (dec_le 0x80000000 (to_bits binary32 x)) [ yes g ↦ g | no f ↦ absurd (never (lt_of_not-le f)) ]
    where
      never : to_bits binary32 x < 0x80000000 → ⊥
      never l =
          let b = to_bits binary32 x in
          let e : b % 0x80000000 ≡ b = omega arith in
          let t : T (nan_bits binary32 b) = subst T (sym (nan_bits_above binary32 b)) (lt→ltb 0x7F800000 (b % 0x80000000) (omega arith)) in
          T_not (is_nan x) number (subst (λ (y : Float). T (is_nan y)) (of_bits-to_bits binary32 x held) (subst T (nan_bits_is binary32 b) t))

-- a value without a sign has its bits below the sign's: with the sign it has a pattern too
negated : (m : ℕ) (e : ℤ) → neg (fin false m e) ≡ fin true m e
unfolding neg
negated m e = refl

sign_bit : (m : ℕ) (e : ℤ) → to_bits binary32 (fin true m e) ≡ 0x80000000 + to_bits binary32 (fin false m e)
unfolding to_bits
sign_bit m e = simp (add_assoc, zero-add)

unsigned : (m : ℕ) (e : ℤ) → T (fits binary32 (fin false m e)) → to_bits binary32 (fin false m e) < 0x80000000
unsigned m e held = omega (arith, sign_bit m e, to_bits-lt binary32 (fin true m e) (subst (λ (y : Float). T (fits binary32 y)) (negated m e) (neg-fits binary32 (fin false m e) held)))

infinity-bits : to_bits binary32 (inf false) ≡ 0x7F800000
unfolding to_bits
infinity-bits = refl

minus-zero-bits : (e : ℤ) → to_bits binary32 (fin true zero e) % 0x80000000 ≡ 0
unfolding to_bits
minus-zero-bits e = simp (zero-mul, zero-div)

root_below : (x : Float) → T (fits binary32 x) → T (not (is_nan x)) → 0x7F800000 < to_bits binary32 x → (to_bits binary32 x % 0x80000000 ≡ 0 → ⊥) → sqrt_of x ≡ nan
unfolding sqrt_of is_nan
root_below nan held number h z = absurd number
root_below (inf true) held number h z = refl
root_below (inf false) held number h z = absurd (omega (arith, bits-over (inf false) held number h, infinity-bits))
root_below (fin true zero e) held number h z = absurd (z (minus-zero-bits e))
root_below (fin true (suc m) e) held number h z = simp eqb-suc-zero
root_below (fin false m e) held number h z = absurd (omega (arith, bits-over (fin false m e) held number h, unsigned m e held))

in-range : (b : ℕ) → (b % 0x80000000 ≡ 0 → ⊥) → (b ≡ 0x7F800000 → ⊥) → b ≤ 0x7F800000 → (0 < b) × (b < 0x7F800000)
in-range b z i h = (omega arith, omega arith)

no-nan-bits : (b : ℕ) → b < 0x7F800000 → T (not (nan_bits binary32 b))
no-nan-bits b h = subst (λ (t : Bool). T (not t)) (sym (nan_bits_above binary32 b)) (not_T (ltb 0x7F800000 (b % 0x80000000)) (λ t. let l = ltb→lt 0x7F800000 (b % 0x80000000) t in omega arith))

pub returns-then-x : goal.returns-then-x
returns-then-x c = none ∙ sym (root-nan _ (is-nan _ c.if-x.true))

pub float_to_bits-b : goal.float_to_bits-b
float_to_bits-b c = is_number _ c.if-x.false

pub returns-then-b-eq0 : goal.returns-then-b-eq0
returns-then-b-eq0 c = sym (root-zero _ (passes _ c.well_formed.0.1) c.if-b-eq0.true)

pub returns-then-b-eq2139095040 : goal.returns-then-b-eq2139095040
returns-then-b-eq2139095040 c = sym (root-infinity _ (passes _ c.well_formed.0.1) c.if-b-eq2139095040.true)

pub returns-then-b-gt2139095040 : goal.returns-then-b-gt2139095040
returns-then-b-gt2139095040 c = none ∙ sym (root_below _ (passes _ c.well_formed.0.1) (is_number _ c.if-x.false) c.if-b-gt2139095040.true c.if-b-eq0.false)

pub float_from_bits-result : goal.float_from_bits-result
float_from_bits-result c = no-nan-bits _ c.root_pattern.ensures.1

pub returns : goal.returns
returns c = c.root_pattern.ensures.0 ∙ ap sqrt_of (of_bits-to_bits binary32 _ (passes _ c.well_formed.0.1))
