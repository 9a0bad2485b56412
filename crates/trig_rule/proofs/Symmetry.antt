-- The sine is odd and the cosine even, bit for bit, at every f32. Assumes nothing.
use mathlib.Core.Path.{◌≡◌, refl, sym, ap, ◌∙◌, subst}
use Prim.Native.Nat.{ℕ, zero, suc, ◌+◌, ◌-◌, ◌*◌, ◌/◌, ◌%◌, ◌^◌, ◌≤◌, ◌<◌}
use native.Mathlib.Nat.{lt_of_not-le, add_assoc, zero-add}
use native.Mathlib.Omega.{arith}
use native.Mathlib.Decide.{dec_le}
use mathlib.Core.Bool.{Bool, true, false, not, cond}
use lib.Dec.{T, eqb}
use lib.IntN.{ℤ}
use lib.Ieee.{Float, nan, inf, fin, up, down, size, binary32, fits, to_bits, of_bits, of_fields, odd, neg}
use lib.Ieee.Bits.{is_true, to_bits-lt}
use lib.Ieee.Fits.{neg-fits}
use Rattle.floats.specs.Patterns.{hidden, sign_place}
use Rattle.trig_rule.specs.Rule.{in_the_reach, Is}
use Rattle.trig_rule.specs.Steps.{tiny_bits, fixed_of, flip_of, rest_of, sine_plus, sine_minus, gap_of, over_of, drop_of, pack_of, plain, sign_bit, sine_at, cosine_at, sine_of, cosine_of}
use Rattle.trig_rule.proofs.Patterns.{of_pattern-plus, of_pattern-minus}
use Rattle.trig_rule.proofs.Packed.{pack-lt}
use Rattle.trig_rule.proofs.Reach.{reach-finite, reach-size, size-reach, sized}
use Rattle.trig_rule.proofs.Ruled.{sine-far, sine-tiny, sine-main, cosine-far, cosine-tiny, cosine-main}

-- ---- the opposite's bits
not-not : (b : Bool) → not (not b) ≡ b
not-not true = refl
not-not false = refl

neg-neg : (x : Float) → neg (neg x) ≡ x
unfolding neg
neg-neg nan = refl
neg-neg (inf s) = ap inf (not-not s)
neg-neg (fin s m e) = ap (λ (t : Bool). fin t m e) (not-not s)

-- the bits of a finite value below its sign
lower : ℕ → ℤ → ℕ
lower m e =
    let n = m * up e * 2 ^ 149 / down e in
    let k = size n - 24 in
    k * hidden + n / 2 ^ k

bits_are : (s : Bool) (m : ℕ) (e : ℤ) → to_bits binary32 (fin s m e) ≡ cond s sign_place 0 + lower m e
unfolding to_bits lower
bits_are s m e =
    let n = m * up e * 2 ^ 149 / down e in
    let k = size n - 24 in
    add_assoc (cond s sign_place 0) (k * hidden) (n / 2 ^ k)

lower-lt : (s : Bool) (m : ℕ) (e : ℤ) → T (fits binary32 (fin s m e)) → lower m e < sign_place
unfolding neg
lower-lt true m e f = below (subst (λ (b : ℕ). b < 4294967296) (bits_are true m e) (to_bits-lt binary32 (fin true m e) f))
  where
    below : sign_place + lower m e < 4294967296 → lower m e < sign_place
    below h = omega arith
lower-lt false m e f = below (subst (λ (b : ℕ). b < 4294967296) (bits_are true m e) (to_bits-lt binary32 (fin true m e) (neg-fits binary32 (fin false m e) f)))
  where
    below : sign_place + lower m e < 4294967296 → lower m e < sign_place
    below h = omega arith

-- the bits without the sign stay, and the sign's bit changes
record Opposite (x : Float) : Type 0 where
  same : plain (neg x) ≡ plain x
  other : sign_bit (neg x) + sign_bit x ≡ 1

sign-turned : (s : Bool) (r : ℕ) → r < sign_place → ((cond (not s) sign_place 0 + r) % sign_place ≡ (cond s sign_place 0 + r) % sign_place) × ((cond (not s) sign_place 0 + r) / sign_place + (cond s sign_place 0 + r) / sign_place ≡ 1)
sign-turned true r h = (omega arith, omega arith)
sign-turned false r h = (omega arith, omega arith)

opposite-at : (s : Bool) (m : ℕ) (e : ℤ) → T (fits binary32 (fin s m e)) → Opposite (fin s m e)
unfolding neg
opposite-at s m e f =
    let t = sign-turned s (lower m e) (lower-lt s m e f) in
    record {
      same = ap (λ (b : ℕ). b % sign_place) (bits_are (not s) m e) ∙ t.0 ∙ ap (λ (b : ℕ). b % sign_place) (sym (bits_are s m e));
      other = ap (λ (b : ℕ). b / sign_place + sign_bit (fin s m e)) (bits_are (not s) m e) ∙ ap (λ (b : ℕ). (cond (not s) sign_place 0 + lower m e) / sign_place + b / sign_place) (bits_are s m e) ∙ t.1;
    }

opposite : (x : Float) → T (fits binary32 x) → T (in_the_reach x) → Opposite x
opposite x f t =
    let c = reach-finite x t in
    subst Opposite (sym c.3) (opposite-at c.0 c.1 c.2 (subst (λ (y : Float). T (fits binary32 y)) c.3 f))

-- ---- the opposite is in reach as the angle is
neg_value : (x : Float) (s : Bool) (n : ℕ) → Is x s n → Is (neg x) (not s) n
unfolding neg
neg_value nan s n v = absurd v
neg_value (inf t) s n v = absurd v
neg_value (fin t m e) s n v = (ap not v.0, v.1)

reach-neg : (x : Float) → T (fits binary32 x) → T (in_the_reach x) → T (in_the_reach (neg x))
reach-neg x f t =
    let c = reach-finite x t in
    let z = sized x c.0 c.1 c.2 f c.3 in
    size-reach (neg x) (not z.minus) z.units (neg_value x z.minus z.units z.value) (reach-size x z.minus z.units z.value t)

reach-opposite : (x : Float) (b : Bool) → T (fits binary32 x) → in_the_reach x ≡ b → in_the_reach (neg x) ≡ b
reach-opposite x true f h = is_true (in_the_reach (neg x)) (reach-neg x f (subst T (sym h) tt))
reach-opposite x false f h = not-true (in_the_reach (neg x)) (λ (t : T (in_the_reach (neg x))). subst T h (subst (λ (y : Float). T (in_the_reach y)) (neg-neg x) (reach-neg (neg x) (neg-fits binary32 x f) t)))
  where
    not-true : (b : Bool) → (T b → ⊥) → b ≡ false
    not-true false k = refl
    not-true true k = absurd (k tt)

-- ---- the opposite of a pattern
odd-neg : (d q k l : ℕ) → neg (odd d false q k l) ≡ odd d true q k l
unfolding neg odd
odd-neg d zero k l = refl
odd-neg d (suc q) k l = refl

fields_neg : (x t : ℕ) → neg (of_fields binary32 false x t) ≡ of_fields binary32 true x t
unfolding neg of_fields
fields_neg zero t = odd-neg 24 t 0 149
fields_neg (suc x) t = go (eqb (suc x) 255) (eqb t 0)
  where
    go : (b z : Bool) → neg (cond b (cond z (inf false) nan) (odd 24 false (hidden + t) x 149)) ≡ cond b (cond z (inf true) nan) (odd 24 true (hidden + t) x 149)
    go true true = refl
    go true false = refl
    go false z = odd-neg 24 (hidden + t) x 149

pattern-neg : (p : ℕ) → p < sign_place → neg (of_bits binary32 p) ≡ of_bits binary32 (sign_place + p)
pattern-neg p h = ap neg (of_pattern-plus p h) ∙ fields_neg (p / hidden) (p % hidden) ∙ sym (of_pattern-minus p h)

-- a and b are the two signs' bits
signed-neg : (a b p : ℕ) → p < sign_place → a + b ≡ 1 → of_bits binary32 (a * sign_place + p) ≡ neg (of_bits binary32 (b * sign_place + p))
signed-neg zero b p h e =
    ap (of_bits binary32) (zero-add p) ∙ sym (neg-neg (of_bits binary32 p)) ∙ ap neg (pattern-neg p h) ∙ ap (λ (n : ℕ). neg (of_bits binary32 (n * sign_place + p))) one
  where
    one : 1 ≡ b
    one = omega arith
signed-neg (suc a) b p h e =
    ap (λ (n : ℕ). of_bits binary32 (n * sign_place + p)) one ∙ sym (pattern-neg p h) ∙ ap (λ (n : ℕ). neg (of_bits binary32 n)) (sym (zero-add p)) ∙ ap (λ (n : ℕ). neg (of_bits binary32 (n * sign_place + p))) none
  where
    one : suc a ≡ 1
    one = omega arith

    none : 0 ≡ b
    none = omega arith

-- ---- the sine is odd
drop_le : (R : ℕ) → drop_of R ≤ 60
drop_le R = omega arith

sine-turned : (s t f R : ℕ) → s + t ≡ 1 → of_bits binary32 (sine_at (s + f) R) ≡ neg (of_bits binary32 (sine_at (t + f) R))
sine-turned s t f R e =
    let o = over_of (sine_plus R) (sine_minus R) in
    let p = pack_of (R / 2 ^ drop_of R * gap_of (sine_plus R) (sine_minus R)) (drop_of R) in
    signed-neg ((s + f + o) % 2) ((t + f + o) % 2) p (pack-lt (R / 2 ^ drop_of R * gap_of (sine_plus R) (sine_minus R)) (drop_of R) (drop_le R)) (flipped s t f o e)
  where
    flipped : (s t f o : ℕ) → s + t ≡ 1 → (s + f + o) % 2 + (t + f + o) % 2 ≡ 1
    flipped s t f o e = omega arith

pub sine-odd : (x : Float) → T (fits binary32 x) → sine_of (neg x) ≡ neg (sine_of x)
unfolding neg
sine-odd x f = go (in_the_reach x) refl (dec_le tiny_bits (plain x))
  where
    go : (b : Bool) → in_the_reach x ≡ b → Dec (tiny_bits ≤ plain x) → sine_of (neg x) ≡ neg (sine_of x)
    go false h d = sine-far (neg x) (reach-opposite x false f h) ∙ sym (ap neg (sine-far x h))
    go true h (no g) =
        let o = opposite x f (subst T (sym h) tt) in
        let l = lt_of_not-le g in
        sine-tiny (neg x) (reach-opposite x true f h) (subst (λ (a : ℕ). a < tiny_bits) (sym o.same) l) ∙ sym (ap neg (sine-tiny x h l))
    go true h (yes l) =
        let o = opposite x f (subst T (sym h) tt) in
        sine-main (neg x) (reach-opposite x true f h) (subst (λ (a : ℕ). tiny_bits ≤ a) (sym o.same) l)
        ∙ ap (λ (a : ℕ). of_bits binary32 (sine_at (sign_bit (neg x) + flip_of (fixed_of a)) (rest_of (fixed_of a)))) o.same
        ∙ sine-turned (sign_bit (neg x)) (sign_bit x) (flip_of (fixed_of (plain x))) (rest_of (fixed_of (plain x))) o.other
        ∙ sym (ap neg (sine-main x h l))

-- ---- the cosine is even
pub cosine-even : (x : Float) → T (fits binary32 x) → cosine_of (neg x) ≡ cosine_of x
cosine-even x f = go (in_the_reach x) refl (dec_le tiny_bits (plain x))
  where
    go : (b : Bool) → in_the_reach x ≡ b → Dec (tiny_bits ≤ plain x) → cosine_of (neg x) ≡ cosine_of x
    go false h d = cosine-far (neg x) (reach-opposite x false f h) ∙ sym (cosine-far x h)
    go true h (no g) =
        let o = opposite x f (subst T (sym h) tt) in
        let l = lt_of_not-le g in
        cosine-tiny (neg x) (reach-opposite x true f h) (subst (λ (a : ℕ). a < tiny_bits) (sym o.same) l) ∙ sym (cosine-tiny x h l)
    go true h (yes l) =
        let o = opposite x f (subst T (sym h) tt) in
        cosine-main (neg x) (reach-opposite x true f h) (subst (λ (a : ℕ). tiny_bits ≤ a) (sym o.same) l)
        ∙ ap (λ (a : ℕ). of_bits binary32 (cosine_at (rest_of (fixed_of a)))) o.same
        ∙ sym (cosine-main x h l)
