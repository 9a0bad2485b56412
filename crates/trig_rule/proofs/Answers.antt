-- Every answer is a value of binary32, and no angle in reach lies at an exact half of a turn, where two numbers of turns would leave the same size. Assumes nothing.
use mathlib.Core.Path.{◌≡◌, refl, sym, ap, ◌∙◌, subst}
use Prim.Native.Nat.{ℕ, ◌+◌, ◌*◌, ◌^◌, ◌≤◌, ◌<◌}
use native.Mathlib.Nat.{le_of_eq, le_of_lt, lt_of_le_of_lt, lt_of_not-le, lt_irrefl, mul-lt-mul_of_pos_left, eq_of_mul-eq-mul_right}
use native.Mathlib.Decide.{dec_le}
use mathlib.Core.Bool.{Bool, true, false}
use lib.Dec.{T, lit<}
use lib.Ieee.{Float, nan, inf, fin, down, binary32, fits}
use lib.Ieee.Bits.{of_bits-fits}
use lib.Ieee.Fits.{nan-fits, down_pos}
use Rattle.trig_rule.specs.Reduction.{turn_units, Reduced}
use Rattle.trig_rule.specs.Rule.{in_the_reach, Is}
use Rattle.trig_rule.specs.Steps.{tiny_bits, fixed_of, flip_of, rest_of, plain, sign_bit, sine_at, cosine_at, sine_of, cosine_of}
use Rattle.trig_rule.proofs.Turns.{reduced, reduced-unique, rest-no-half}
use Rattle.trig_rule.proofs.Angles.{angle-value, small-value, Signed, signed}
use Rattle.trig_rule.proofs.Reach.{reach-plain}
use Rattle.trig_rule.proofs.Little.{little-reduced}
use Rattle.trig_rule.proofs.Ruled.{sine-far, sine-tiny, sine-main, cosine-far, cosine-tiny, cosine-main}

-- ---- the format
pub sine-fits : (x : Float) → T (fits binary32 x) → T (fits binary32 (sine_of x))
sine-fits x f = go (in_the_reach x) refl (dec_le tiny_bits (plain x))
  where
    go : (b : Bool) → in_the_reach x ≡ b → Dec (tiny_bits ≤ plain x) → T (fits binary32 (sine_of x))
    go false h d = subst (λ (y : Float). T (fits binary32 y)) (sym (sine-far x h)) (nan-fits binary32)
    go true h (no g) = subst (λ (y : Float). T (fits binary32 y)) (sym (sine-tiny x h (lt_of_not-le g))) f
    go true h (yes l) = subst (λ (y : Float). T (fits binary32 y)) (sym (sine-main x h l)) (of_bits-fits binary32 (sine_at (sign_bit x + flip_of (fixed_of (plain x))) (rest_of (fixed_of (plain x)))))

pub cosine-fits : (x : Float) → T (fits binary32 (cosine_of x))
cosine-fits x = go (in_the_reach x) refl (dec_le tiny_bits (plain x))
  where
    go : (b : Bool) → in_the_reach x ≡ b → Dec (tiny_bits ≤ plain x) → T (fits binary32 (cosine_of x))
    go false h d = subst (λ (y : Float). T (fits binary32 y)) (sym (cosine-far x h)) (nan-fits binary32)
    go true h (no g) = subst (λ (y : Float). T (fits binary32 y)) (sym (cosine-tiny x h (lt_of_not-le g))) (of_bits-fits binary32 1065353216)
    go true h (yes l) = subst (λ (y : Float). T (fits binary32 y)) (sym (cosine-main x h l)) (of_bits-fits binary32 (cosine_at (rest_of (fixed_of (plain x)))))

-- ---- an exact half of a turn
-- a value has one size
pub size-unique : (x : Float) (s t : Bool) (n m : ℕ) → Is x s n → Is x t m → n ≡ m
size-unique nan s t n m v w = absurd v
size-unique (inf u) s t n m v w = absurd v
size-unique (fin u k e) s t n m v w = eq_of_mul-eq-mul_right (down e) (down_pos e) n m (sym v.1 ∙ w.1)

tiny-no-half : (n : ℕ) → n < 2 ^ 137 → 2 * n ≡ turn_units → ⊥
tiny-no-half n h e = lt_irrefl turn_units (lt_of_le_of_lt (le_of_eq (sym e)) (lt_of_le_of_lt (twice n h) (lit< tt)))
  where
    twice : (n : ℕ) → n < 2 ^ 137 → 2 * n ≤ 2 * 2 ^ 137
    twice n h = le_of_lt (mul-lt-mul_of_pos_left h (lit< tt))

pub no-half : (x : Float) → T (fits binary32 x) → T (in_the_reach x) → (s b : Bool) (n r : ℕ) → Is x s n → Reduced n r b → 2 * r ≡ turn_units → ⊥
no-half x f t s b n r v d e = go (dec_le tiny_bits (plain x))
  where
    z : Signed x
    z = signed x f

    go : Dec (tiny_bits ≤ plain x) → ⊥
    go (yes l) =
        let X = fixed_of (plain x) in
        let same : n ≡ X * 2 ^ 93 = size-unique x s z.minus n (X * 2 ^ 93) v (z.value (X * 2 ^ 93) (angle-value (plain x) l (reach-plain x f t))) in
        rest-no-half X (ap (λ (m : ℕ). 2 * m) (reduced-unique (X * 2 ^ 93) (rest_of X * 2 ^ 93) r _ b (reduced X) (subst (λ (m : ℕ). Reduced m r b) same d)) ∙ e)
    go (no g) =
        let q = small-value (plain x) (lt_of_not-le g) in
        let same : n ≡ q.units = size-unique x s z.minus n q.units v (z.value q.units q.value) in
        tiny-no-half q.units q.under (ap (λ (m : ℕ). 2 * m) (reduced-unique q.units q.units r false b (little-reduced q.units q.under) (subst (λ (m : ℕ). Reduced m r b) same d)) ∙ e)
