-- The bits of q steps of 2 ^ k smallest values: the sign, then k times the weight of the exponent's field, then q. A q of one digit too many carries into
-- the field by itself. Assumes nothing.
use Prim.Native.Nat.{ℕ, zero, suc, ◌+◌, ◌-◌, ◌*◌, ◌/◌, ◌%◌, ◌^◌, ◌≤◌, ◌<◌}
use mathlib.Core.Path.{◌≡◌, refl, ap, sym, ◌∙◌, subst}
use mathlib.Core.Logic.{◌⊎◌, inl, inr, ⊎_elim}
use mathlib.Core.Bool.{Bool, true, false, cond}
use native.Mathlib.Nat.{le_refl, le_trans, lt_of_lt_of_le, lt_of_le_of_lt, le_of_eq, mul-one, mul-div_cancel, mul-le-mul_right, add_assoc, pow-suc, div-one, suc-mul, not-le_of_lt}
use native.Mathlib.Omega.{arith}
use lib.Dec.{ltb, lit≤}
use borrow.Author.Tests.{lt-ltb, le-ltb, ltb-true, ltb-false}
use lib.Pow.{pow-lt, pow_pos, pow_mono, pow-add, shl_lt}
use lib.IntN.{pos}
use lib.Ieee.{Float, nan, inf, fin, Format, binary32, prec, emax, low, hid, top, up, down, size, odd, units, to_bits, of_bits}
use lib.Ieee.Digits.{size-le}
use lib.Ieee.Fits.{odd-fits, down_pos, two}
use lib.Ieee.Exact.{HasValue, odd_sign}
use lib.Ieee.Bits.{of_bits-to_bits}
use Rattle.floats.specs.Patterns.{hidden, sign_place, infinity_bits}
use Rattle.decimal_rounding.proofs.Cell.{size_is}

flat : (z p : ℕ) → z ≤ p → z - p ≡ 0
flat z p h = omega arith

-- ---- the bits

bits-val : (f : Format) (s : Bool) (v : Float) (n : ℕ) → HasValue v s n (2 ^ low f) → to_bits f v ≡ cond s (top f) 0 + (size n - prec f) * hid f + n / 2 ^ (size n - prec f)
unfolding to_bits
bits-val f s nan n h = absurd h
bits-val f s (inf t) n h = absurd h
bits-val f s (fin t m e) n h =
    let g : m * up e * 2 ^ low f / down e ≡ n = ap (λ (x : ℕ). x / down e) h.1 ∙ mul-div_cancel n (down_pos e) in
    ap (λ (x : ℕ). cond t (top f) 0 + (size x - prec f) * hid f + x / 2 ^ (size x - prec f)) g
    ∙ ap (λ (x : Bool). cond x (top f) 0 + (size n - prec f) * hid f + n / 2 ^ (size n - prec f)) h.0

twice_hid : (f : Format) → 2 ^ prec f ≡ hid f + hid f
twice_hid f =
    let t = two f in
    let e : prec f ≡ suc (prec f - 1) = omega arith in
    ap (λ (x : ℕ). 2 ^ x) e ∙ pow-suc 2 (prec f - 1) ∙ omega arith

below-or-at : (q n : ℕ) → q ≤ n → (q < n) ⊎ (q ≡ n)
below-or-at q n h = go (ltb q n) refl
  where
    go : (b : Bool) → ltb q n ≡ b → (q < n) ⊎ (q ≡ n)
    go true e = inl (ltb-true q n e)
    go false e = inr (omega (arith, ltb-false q n e))

-- k * hid + q, by how the leading digits of q * 2 ^ k are kept
kept : (f : Format) (q k : ℕ) → q ≤ 2 ^ prec f → (hid f ≤ q) ⊎ (k ≡ 0) → (size (q * 2 ^ k) - prec f) * hid f + q * 2 ^ k / 2 ^ (size (q * 2 ^ k) - prec f) ≡ k * hid f + q
kept f q k a b = ⊎_elim (λ (lt : q < 2 ^ prec f). inside lt b) at (below-or-at q (2 ^ prec f) a)
  where
    n : ℕ
    n = q * 2 ^ k

    with-drop : (j : ℕ) → size n - prec f ≡ j → (size n - prec f) * hid f + n / 2 ^ (size n - prec f) ≡ j * hid f + n / 2 ^ j
    with-drop j e = ap (λ (x : ℕ). x * hid f + n / 2 ^ x) e

    inside : q < 2 ^ prec f → (hid f ≤ q) ⊎ (k ≡ 0) → (size n - prec f) * hid f + n / 2 ^ (size n - prec f) ≡ k * hid f + q
    inside lt (inl g) =
        let j = prec f - 1 + k in
        let t = two f in
        let sj : prec f + k ≡ suc j = omega arith in
        let lo : 2 ^ j ≤ n = le_trans (le_of_eq (pow-add 2 (prec f - 1) k)) (mul-le-mul_right (2 ^ k) g) in
        let hi : n < 2 ^ suc j = subst (λ (x : ℕ). n < 2 ^ x) sj (shl_lt (prec f) k lt) in
        let z : size n - prec f ≡ k = omega (arith, size_is n j lo hi) in
        with-drop k z ∙ ap (λ (x : ℕ). k * hid f + x) (mul-div_cancel q (pow_pos k))
    inside lt (inr g) =
        let e : n ≡ q = ap (λ (x : ℕ). q * 2 ^ x) g ∙ mul-one q in
        let z : size n - prec f ≡ 0 = flat (size n) (prec f) (size-le n (prec f) (subst (λ (x : ℕ). x < 2 ^ prec f) (sym e) lt)) in
        with-drop 0 z ∙ ap (λ (x : ℕ). 0 * hid f + x) (div-one n ∙ e) ∙ ap (λ (x : ℕ). x * hid f + q) (sym g)

    at : q ≡ 2 ^ prec f → (size n - prec f) * hid f + n / 2 ^ (size n - prec f) ≡ k * hid f + q
    at e =
        let t = two f in
        let p : n ≡ 2 ^ (prec f + k) = ap (λ (x : ℕ). x * 2 ^ k) e ∙ sym (pow-add 2 (prec f) k) in
        let lo : 2 ^ (prec f + k) ≤ n = le_of_eq (sym p) in
        let hi : n < 2 ^ suc (prec f + k) = subst (λ (x : ℕ). x < 2 ^ suc (prec f + k)) (sym p) (pow-lt (le_refl (suc (prec f + k)))) in
        let z : size n - prec f ≡ suc k = omega (arith, size_is n (prec f + k) lo hi) in
        let shift : prec f + k ≡ prec f - 1 + suc k = omega arith in
        let c : n ≡ hid f * 2 ^ suc k = p ∙ ap (λ (x : ℕ). 2 ^ x) shift ∙ pow-add 2 (prec f - 1) (suc k) in
        let d : n / 2 ^ suc k ≡ hid f = ap (λ (x : ℕ). x / 2 ^ suc k) c ∙ mul-div_cancel (hid f) (pow_pos (suc k)) in
        with-drop (suc k) z ∙ ap (λ (x : ℕ). suc k * hid f + x) d ∙ ap (λ (x : ℕ). x + hid f) (suc-mul k (hid f)) ∙ omega (arith, e, twice_hid f)

pub units-bits : (f : Format) (s : Bool) (q k : ℕ) → q ≤ 2 ^ prec f → (hid f ≤ q) ⊎ (k ≡ 0) → q * 2 ^ k < 2 ^ (low f + suc (emax f)) → units f s q k ≡ of_bits f (cond s (top f) 0 + k * hid f + q)
unfolding units
units-bits f s q k a b c =
    let v = odd (suc (prec f)) s q k (low f) in
    let lim = 2 ^ (low f + suc (emax f)) in
    let w : q < 2 ^ suc (prec f) = lt_of_le_of_lt a (pow-lt (le_refl (suc (prec f)))) in
    ap (λ (x : Bool). cond x v (inf s)) (lt-ltb (q * 2 ^ k) lim c)
    ∙ sym (of_bits-to_bits f v (odd-fits f (suc (prec f)) s q k w a c))
    ∙ ap (λ (x : ℕ). of_bits f x)
    (bits-val f s v (q * 2 ^ k) (odd_sign (suc (prec f)) s q k (low f))
    ∙ add_assoc (cond s (top f) 0) _ _
    ∙ ap (λ (x : ℕ). cond s (top f) 0 + x) (kept f q k a b)
    ∙ sym (add_assoc (cond s (top f) 0) (k * hid f) q))

-- ---- binary32 up to its infinity

-- the pattern 7F800000, and the same with the sign
pub infinite-bits : (s : Bool) → inf s ≡ of_bits binary32 (cond s sign_place 0 + infinity_bits)
unfolding of_bits
infinite-bits true = refl
infinite-bits false = refl

-- the pattern of no bits but the sign
pub zero_bits : (s : Bool) → fin s 0 (pos 0) ≡ of_bits binary32 (cond s sign_place 0 + 0)
unfolding of_bits
zero_bits true = refl
zero_bits false = refl

-- from 2 ^ 128 on the steps are an infinity
pub units-infinite : (s : Bool) (q k : ℕ) → 2 ^ 277 ≤ q * 2 ^ k → units binary32 s q k ≡ inf s
unfolding units
units-infinite s q k h = rw (le-ltb (q * 2 ^ k) (2 ^ 277) h)

-- the largest exponent's step, and one significand more than it has, is the infinity's pattern
pub units-pattern : (s : Bool) (q k : ℕ) → q ≤ 2 ^ 24 → (2 ^ 23 ≤ q) ⊎ (k ≡ 0) → k ≤ 253 → units binary32 s q k ≡ of_bits binary32 (cond s sign_place 0 + k * hidden + q)
units-pattern s q k a b c = go (ltb (q * 2 ^ k) (2 ^ 277)) refl
  where
    full : 2 ^ 277 ≤ q * 2 ^ k → q < 2 ^ 24 → ⊥
    full h l = let e : 24 + k ≤ 277 = omega arith in not-le_of_lt (lt_of_lt_of_le (shl_lt 24 k l) (pow_mono e)) h

    last : 2 ^ 277 ≤ q * 2 ^ k → q ≡ 2 ^ 24 → k < 253 → ⊥
    last h e l = let f : 24 + k < 277 = omega arith in not-le_of_lt (pow-lt f) (subst (λ (z : ℕ). 2 ^ 277 ≤ z) (ap (λ (z : ℕ). z * 2 ^ k) e ∙ sym (pow-add 2 24 k)) h)

    at-end : 2 ^ 277 ≤ q * 2 ^ k → (q < 2 ^ 24) ⊎ (q ≡ 2 ^ 24) → (k < 253) ⊎ (k ≡ 253) → units binary32 s q k ≡ of_bits binary32 (cond s sign_place 0 + k * hidden + q)
    at-end h (inl l) y = absurd (full h l)
    at-end h (inr e) (inl l) = absurd (last h e l)
    at-end h (inr e) (inr f) = units-infinite s q k h ∙ infinite-bits s ∙ ap (λ (z : ℕ). of_bits binary32 z) (omega (arith, e, f))

    go : (x : Bool) → ltb (q * 2 ^ k) (2 ^ 277) ≡ x → units binary32 s q k ≡ of_bits binary32 (cond s sign_place 0 + k * hidden + q)
    go true e = units-bits binary32 s q k a b (ltb-true _ _ e)
    go false e = at-end (ltb-false _ _ e) (below-or-at q (2 ^ 24) a) (below-or-at k 253 c)
