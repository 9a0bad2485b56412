-- Lengths that are no number, and roots that round to 0 or to infinity. Assumes nothing.
use mathlib.Core.Path.{◌≡◌, refl, sym, ap, ◌∙◌, subst}
use mathlib.Core.Bool.{true, false, not}
use Prim.Native.Nat.{ℕ, zero, suc, ◌*◌, ◌^◌, ◌≤◌, ◌<◌, zero-le}
use native.Mathlib.Nat.{zero-mul, lt_irrefl, zero-lt-suc, le_trans, le_of_eq}
use lib.Dec.{T, lit≤, lit<, lt→ltb}
use lib.IntN.{ℤ, pos}
use lib.Ieee.{Float, nan, inf, fin, Format, binary32, binary64, of_bits, add, mul, lt, le, up, down, round, fits, to_bits}
use lib.Ieee.Bits.{of_bits-fits}
use lib.Ieee.Fits.{down_pos, add-fits}
use lib.Ieee.Positive.{num, den, positive, between}
use lib.Ieee.Scale.{round_same}
use Rattle.floats.specs.Kinds.{nonneg, upward}
use Rattle.floats.proofs.Order.{not-lt→le}
use Rattle.floats.proofs.Fractions.{nonneg-real, lt→pos, cross→le}
use Rattle.floats.proofs.Unique.{antisym}
use Rattle.root.specs.Root.{root_of}
use Rattle.root.proofs.Nearest.{root-nearest}
use Rattle.lengths.specs.Length.{square_sum_of, narrow_of, length_of}
use Rattle.decimal_rounding.proofs.Wide.{pattern-positive}
use Rattle.floats.proofs.Held.{round-upward}
use Rattle.lengths.proofs.Upward.{upward-real}
use Rattle.lengths.proofs.Sizes.{middling-bits}
use Rattle.lengths.proofs.Narrow.{narrow-is, narrow-fits, narrow-mono}
use Rattle.lengths.proofs.Enclosed.{positive-nonneg, root-above, root_below}
use Rattle.lengths.proofs.Judged.{no-inf}

pub sum_fits : (x y : Float) → T (fits binary64 (square_sum_of x y))
unfolding square_sum_of
sum_fits x y = add-fits binary64 (mul binary64 x x) (mul binary64 y y)

-- ---- a NaN
add-nan : (f : Format) (z : Float) → add f z nan ≡ nan
unfolding add
add-nan f nan = refl
add-nan f (inf s) = refl
add-nan f (fin s m e) = refl

pub length-nan-x : (x y : Float) → x ≡ nan → length_of x y ≡ nan
unfolding length_of add mul root_of
length-nan-x x y h = ap (λ (z : Float). length_of z y) h

pub length-nan-y : (x y : Float) → y ≡ nan → length_of x y ≡ nan
unfolding length_of mul root_of
length-nan-y x y h = ap (length_of x) h ∙ ap (λ (z : Float). narrow_of (root_of binary64 z)) (add-nan binary64 (mul binary64 x x))

-- ---- what rounds to 0
pub rounded-zero : round binary32 false 0 1 ≡ of_bits binary32 0
unfolding round of_bits
rounded-zero = refl

pub narrow-zero : (e : ℤ) → narrow_of (fin false zero e) ≡ of_bits binary32 0
unfolding narrow_of
narrow-zero e = round_same binary32 false (zero * up e) (down e) 0 1 (down_pos e) (zero-lt-suc 0) (ap (λ (n : ℕ). n * 1) (zero-mul (up e)) ∙ sym (zero-mul (down e))) ∙ rounded-zero

pub root-of-zero : (e : ℤ) → root_of binary64 (fin false zero e) ≡ fin false zero e
unfolding root_of
root-of-zero e = refl

zero-fits : T (fits binary32 (fin false 0 (pos 0)))
unfolding fits
zero-fits = tt

at_zero : (x : Float) → T (fits binary32 x) → T (upward x) → T (le x (fin false 0 (pos 0))) → x ≡ fin false 0 (pos 0)
unfolding le lt
at_zero nan f u h = absurd u
at_zero (inf true) f u h = absurd u
at_zero (inf false) f u h = absurd h
at_zero (fin true m e) f u h = absurd u
at_zero (fin false m e) f u h = antisym binary32 m e 0 (pos 0) f zero-fits h (cross→le (fin false 0 (pos 0)) (fin false m e) tt tt (le_trans (le_of_eq (zero-mul (down e))) zero-le))

zero_is : of_bits binary32 0 ≡ fin false 0 (pos 0)
unfolding of_bits
zero_is = refl

-- the root of what is below 2 ^ -300 is at most 2 ^ -150, the middle of 0 and the smallest f32
tiny-is : mul binary64 (of_bits binary64 0x3690000000000000) (of_bits binary64 0x3690000000000000) ≡ of_bits binary64 0x2D30000000000000
unfolding mul of_bits
tiny-is = refl

tiny-narrow : narrow_of (of_bits binary64 0x3690000000000000) ≡ fin false 0 (pos 0)
unfolding narrow_of of_bits round
tiny-narrow = refl

narrow-upward : (x : Float) → T (positive x) → T (upward (narrow_of x))
narrow-upward x p = subst (λ (z : Float). T (upward z)) (sym (narrow-is x p)) (round-upward binary32 (num x) (den x))

pub root-positive : (x : Float) → T (fits binary64 x) → T (positive x) → T (positive (root_of binary64 x))
root-positive x f p = (root-nearest binary64 x f p).above_zero

tiny-root : (s : Float) → T (fits binary64 s) → T (positive s) → T (lt s (of_bits binary64 0x2D30000000000000)) → narrow_of (root_of binary64 s) ≡ of_bits binary32 0
tiny-root s f p h =
    let v = of_bits binary64 0x3690000000000000 in
    let pv : T (positive v) = pattern-positive 0x3690000000000000 (lit≤ tt) (lit< tt) in
    let q = root_of binary64 s in
    let pq : T (positive q) = root-positive s f p in
    let b : T (le q v) = root_below binary64 s v f p (of_bits-fits binary64 0x3690000000000000) pv (subst (λ (z : Float). T (lt s z)) (sym tiny-is) h) in
    at_zero (narrow_of q) (narrow-fits q pq) (narrow-upward q pq) (subst (λ (z : Float). T (le (narrow_of q) z)) tiny-narrow (narrow-mono q v pq pv b)) ∙ sym zero_is

pub root-tiny : (s : Float) → T (fits binary64 s) → T (upward s) → T (lt s (of_bits binary64 0x2D30000000000000)) → narrow_of (root_of binary64 s) ≡ of_bits binary32 0
root-tiny nan f u h = absurd u
root-tiny (inf true) f u h = absurd u
root-tiny (inf false) f u h = absurd (no-inf _ h)
root-tiny (fin true m e) f u h = absurd u
root-tiny (fin false zero e) f u h = ap narrow_of (root-of-zero e) ∙ narrow-zero e
root-tiny (fin false (suc m) e) f u h = tiny-root (fin false (suc m) e) f (lt→ltb 0 (suc m) (zero-lt-suc m)) h

-- ---- what rounds to infinity: the root of what is above the square of 2 ^ 128 - 2 ^ 103
huge-is : mul binary64 (of_bits binary64 0x47EFFFFFF0000000) (of_bits binary64 0x47EFFFFFF0000000) ≡ of_bits binary64 0x4FEFFFFFE0000008
unfolding mul of_bits
huge-is = refl

huge-narrow : narrow_of (of_bits binary64 0x47EFFFFFF0000000) ≡ inf false
unfolding narrow_of of_bits round
huge-narrow = refl

at-infinity : (x : Float) → T (upward x) → T (le (inf false) x) → x ≡ inf false
unfolding le
at-infinity nan u h = absurd u
at-infinity (inf true) u h = absurd u
at-infinity (inf false) u h = refl
at-infinity (fin s m e) u h = absurd h

huge-root : (s : Float) → T (fits binary64 s) → T (positive s) → T (lt (of_bits binary64 0x4FEFFFFFE0000008) s) → narrow_of (root_of binary64 s) ≡ inf false
huge-root s f p h =
    let v = of_bits binary64 0x47EFFFFFF0000000 in
    let pv : T (positive v) = pattern-positive 0x47EFFFFFF0000000 (lit≤ tt) (lit< tt) in
    let q = root_of binary64 s in
    let pq : T (positive q) = root-positive s f p in
    let b : T (le v q) = root-above binary64 s v f p (of_bits-fits binary64 0x47EFFFFFF0000000) pv (subst (λ (z : Float). T (lt z s)) (sym huge-is) h) in
    at-infinity (narrow_of q) (narrow-upward q pq) (subst (λ (z : Float). T (le z (narrow_of q))) huge-narrow (narrow-mono v q pv pq b))

pub root-of-infinity : narrow_of (root_of binary64 (inf false)) ≡ inf false
unfolding root_of narrow_of
root-of-infinity = refl

huge-nonneg : T (nonneg (of_bits binary64 0x4FEFFFFFE0000008))
huge-nonneg = positive-nonneg (of_bits binary64 0x4FEFFFFFE0000008) (pattern-positive 0x4FEFFFFFE0000008 (lit≤ tt) (lit< tt))

pub root-huge : (s : Float) → T (fits binary64 s) → T (upward s) → T (lt (of_bits binary64 0x4FEFFFFFE0000008) s) → narrow_of (root_of binary64 s) ≡ inf false
root-huge nan f u h = absurd u
root-huge (inf true) f u h = absurd u
root-huge (inf false) f u h = root-of-infinity
root-huge (fin true m e) f u h = absurd u
root-huge (fin false zero e) f u h = absurd (lt_irrefl 0 (subst (λ (n : ℕ). 0 < n) (zero-mul (up e)) (lt→pos (of_bits binary64 0x4FEFFFFFE0000008) (fin false zero e) huge-nonneg tt h)))
root-huge (fin false (suc m) e) f u h = huge-root (fin false (suc m) e) f (lt→ltb 0 (suc m) (zero-lt-suc m)) h

-- ---- what is between the two
pub middling : (s : Float) → T (fits binary64 s) → T (upward s)
    → T (not (lt s (of_bits binary64 0x2D30000000000000))) → T (not (lt (of_bits binary64 0x4FEFFFFFE0000008) s))
    → (723 * 2 ^ 52 ≤ to_bits binary64 s) × (to_bits binary64 s < 1279 * 2 ^ 52)
middling s f u h k =
    let lo = of_bits binary64 0x2D30000000000000 in
    let hi = of_bits binary64 0x4FEFFFFFE0000008 in
    let pl : T (positive lo) = pattern-positive 0x2D30000000000000 (lit≤ tt) (lit< tt) in
    let ph : T (positive hi) = pattern-positive 0x4FEFFFFFE0000008 (lit≤ tt) (lit< tt) in
    let rs = upward-real s u in
    let a = not-lt→le lo s (nonneg-real lo (positive-nonneg lo pl)) rs h in
    let b = not-lt→le s hi rs (nonneg-real hi (positive-nonneg hi ph)) k in
    middling-bits s f (between lo s hi pl ph a b) a b
