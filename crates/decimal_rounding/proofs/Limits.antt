-- Both ends of binary32, and the sign: which fractions are an infinity, which are a zero, and that the sign given is the sign kept.
-- Assumes nothing.
use Prim.Native.Nat.{ℕ, zero, suc, ◌+◌, ◌-◌, ◌*◌, ◌/◌, ◌%◌, ◌^◌, ◌≤◌, ◌<◌, zero-le, compare}
use mathlib.Core.Path.{◌≡◌, refl, ap, sym, ◌∙◌, subst}
use mathlib.Core.Logic.{◌⊎◌, inl, inr}
use mathlib.Core.Bool.{Bool, true, false, cond}
use native.Mathlib.Nat.{le_refl, le_trans, le_of_eq, lt_of_lt_of_le, lt_of_not-le, not-le_of_lt, le-div_iff_mul-le, mul_assoc, mul_comm, mul_right_comm, mul-one, zero-mul, zero-add, mul-le-mul_right, mul-lt-mul_of_pos_right}
use native.Mathlib.Omega.{arith}
use lib.Dec.{ltb, lit≤, lit<}
use lib.Pow.{pow_pos, pow_mono, pow-add}
use lib.IntN.{ℤ, pos}
use lib.Ieee.{Float, nan, inf, fin, Format, binary32, prec, low, emax, size, nearest, odd, units, round, neg}
use lib.Ieee.Digits.{size-lt, size_reaches}
use lib.Ieee.Fits.{core, round_is}
use lib.Ieee.Nearest.{nearest-ge}
use Rattle.decimal_rounding.proofs.Compares.{below_or_not}
use Rattle.decimal_rounding.proofs.Halves.{near_down, near_up}
use Rattle.decimal_rounding.proofs.Pattern.{units-infinite}

-- ---- infinities

-- what is 2 ^ 128 or more keeps 24 digits, the first of which alone is that much
pub infinite-far : (s : Bool) (num den : ℕ) → 0 < den → 2 ^ 277 * den ≤ num * 2 ^ 149 → round binary32 s num den ≡ inf s
infinite-far s num den d h =
    let n = num * 2 ^ 149 in
    let w = n / den in
    let z = size w in
    let k = z - 24 in
    let u = den * 2 ^ k in
    let w-big : 2 ^ 277 ≤ w = (le-div_iff_mul-le d).1 h in
    let z-big : 277 < z = lt_of_not-le (λ (g : z ≤ 277). not-le_of_lt (lt_of_lt_of_le (size-lt w) (pow_mono g)) w-big) in
    let e : 23 + k ≡ z - 1 = omega arith in
    let j : z - 1 < z = omega arith in
    let top : 2 ^ 23 * 2 ^ k ≤ w = le_trans (le_of_eq (sym (pow-add 2 23 k) ∙ ap (λ (x : ℕ). 2 ^ x) e)) (size_reaches w (z - 1) j) in
    let q-big : 2 ^ 23 ≤ n / u = (le-div_iff_mul-le (unit-pos k)).1 (le_trans (le_of_eq (turn k)) ((le-div_iff_mul-le d).0 top)) in
    let r = nearest (n / u) (compare (n % u * 2) u) in
    let f : 277 ≤ 23 + k = omega arith in
    let r-big : 2 ^ 277 ≤ r * 2 ^ k = le_trans (pow_mono f) (le_trans (le_of_eq (pow-add 2 23 k)) (mul-le-mul_right (2 ^ k) (le_trans q-big (nearest-ge (n / u) (compare (n % u * 2) u))))) in
    round_is binary32 s num den ∙ units-infinite s r k r-big
  where
    unit-pos : (k : ℕ) → 0 < den * 2 ^ k
    unit-pos k = subst (λ (x : ℕ). x < den * 2 ^ k) (zero-mul (2 ^ k)) (mul-lt-mul_of_pos_right d (pow_pos k))

    turn : (k : ℕ) → 2 ^ 23 * (den * 2 ^ k) ≡ 2 ^ 23 * 2 ^ k * den
    turn k = ap (λ (x : ℕ). 2 ^ 23 * x) (mul_comm den (2 ^ k)) ∙ sym (mul_assoc (2 ^ 23) (2 ^ k) den)

-- the middle above the largest significand, a unit u being twice v
last-middle : (n u v : ℕ) → u ≡ v * 2 → 33554431 * v ≤ n → 2 * (16777215 * u) + u ≤ 2 * n
last-middle n u v e h = omega arith

last_step : (n u t : ℕ) → n < t → t ≡ 16777216 * u → n < 16777215 * u + u
last_step n u t h e = omega arith

at-or-past : (a b : ℕ) → a ≤ b → (a < b) ⊎ (b ≡ a)
at-or-past a b l = go (below_or_not a b)
  where
    go : (a < b) ⊎ (b ≤ a) → (a < b) ⊎ (b ≡ a)
    go (inl g) = inl g
    go (inr g) = inr (omega arith)

-- "2^128 - 2^103 and above is infinite": there the last middle is, and the significand below it is odd
pub infinite-from : (s : Bool) (num den : ℕ) → 0 < den → (2 ^ 128 - 2 ^ 103) * den ≤ num → round binary32 s num den ≡ inf s
infinite-from s num den d h = go (below_or_not (num * 2 ^ 149) (2 ^ 277 * den))
  where
    h252 : ℕ
    h252 = den * 2 ^ 252

    unit : den * 2 ^ 253 ≡ h252 * 2
    unit = sym (mul_assoc den (2 ^ 252) 2)

    scaled : 33554431 * h252 ≤ num * 2 ^ 149
    scaled = le_trans (le_of_eq (sym (mul_right_comm 33554431 (2 ^ 252) den ∙ mul_assoc 33554431 den (2 ^ 252)) ∙ mul_right_comm (33554431 * 2 ^ 103) (2 ^ 149) den)) (mul-le-mul_right (2 ^ 149) h)

    whole : 2 ^ 277 * den ≡ 16777216 * (den * 2 ^ 253)
    whole = mul_right_comm (2 ^ 24) (2 ^ 253) den ∙ mul_assoc (2 ^ 24) den (2 ^ 253)

    odd-middle : (a b : ℕ) → (a < b) ⊎ (b ≡ a) → (a < b) ⊎ ((b ≡ a) × (16777215 % 2 ≡ 1))
    odd-middle a b (inl g) = inl g
    odd-middle a b (inr g) = inr (g, refl)

    go : (num * 2 ^ 149 < 2 ^ 277 * den) ⊎ (2 ^ 277 * den ≤ num * 2 ^ 149) → round binary32 s num den ≡ inf s
    go (inr g) = infinite-far s num den d g
    go (inl g) =
        near_up binary32 s num den 16777215 253 d (lit< tt) (inl (lit≤ tt)) (last_step _ _ _ g whole) (odd-middle _ _ (at-or-past _ _ (last-middle _ _ _ unit scaled)))
        ∙ units-infinite s 16777216 253 (lit≤ tt)

-- ---- zeros

none : (s : Bool) → units binary32 s 0 0 ≡ fin s 0 (pos 0)
unfolding units odd
none s = refl

-- "2^-150 and below is zero"
pub zero-to : (s : Bool) (num den : ℕ) → 0 < den → num * 2 ^ 150 ≤ den → round binary32 s num den ≡ fin s 0 (pos 0)
zero-to s num den d h =
    near_down binary32 s num den 0 0 d (lit< tt) (inr refl) (subst (λ (x : ℕ). x ≤ num * 2 ^ 149) (sym (zero-mul (den * 2 ^ 0))) zero-le) (even-middle _ _ (at-or-past _ _ (le_trans (le_of_eq half) (le_trans h (le_of_eq (sym step))))))
    ∙ none s
  where
    half : 2 * (num * 2 ^ 149) ≡ num * 2 ^ 150
    half = mul_comm 2 (num * 2 ^ 149) ∙ mul_assoc num (2 ^ 149) 2

    step : 2 * (0 * (den * 2 ^ 0)) + den * 2 ^ 0 ≡ den
    step = ap (λ (x : ℕ). 2 * x + den * 2 ^ 0) (zero-mul (den * 2 ^ 0)) ∙ zero-add (den * 2 ^ 0) ∙ mul-one den

    even-middle : (a b : ℕ) → (a < b) ⊎ (b ≡ a) → (a < b) ⊎ ((a ≡ b) × (0 % 2 ≡ 0))
    even-middle a b (inl g) = inl g
    even-middle a b (inr g) = inr (sym g, refl)

-- ---- the sign

odd-neg : (d : ℕ) (q k l : ℕ) → odd d true q k l ≡ neg (odd d false q k l)
unfolding odd neg
odd-neg d zero k l = refl
odd-neg d (suc q) k l = refl

units-neg : (f : Format) (q k : ℕ) → units f true q k ≡ neg (units f false q k)
unfolding units neg
units-neg f q k = go (ltb (q * 2 ^ k) (2 ^ (low f + suc (emax f))))
  where
    go : (b : Bool) → cond b (odd (suc (prec f)) true q k (low f)) (inf true) ≡ neg (cond b (odd (suc (prec f)) false q k (low f)) (inf false))
    go true = odd-neg (suc (prec f)) q k (low f)
    go false = refl

-- a fraction with the other sign is rounded to the same float with the other sign
pub round-neg : (f : Format) (num den : ℕ) → round f true num den ≡ neg (round f false num den)
round-neg f num den =
    round_is f true num den ∙ units-neg f _ _ ∙ ap neg (sym (round_is f false num den))

-- a number or an infinity with this sign
abbrev pub Signed : Bool → Float → Type 0
Signed s nan = ⊥
Signed s (inf t) = t ≡ s
Signed s (fin t m e) = t ≡ s

odd-signed : (d : ℕ) (s : Bool) (q k l : ℕ) → Signed s (odd d s q k l)
unfolding odd
odd-signed d s zero k l = refl
odd-signed d s (suc q) k l = refl

units-signed : (f : Format) (s : Bool) (q k : ℕ) → Signed s (units f s q k)
unfolding units
units-signed f s q k = go (ltb (q * 2 ^ k) (2 ^ (low f + suc (emax f))))
  where
    go : (b : Bool) → Signed s (cond b (odd (suc (prec f)) s q k (low f)) (inf s))
    go true = odd-signed (suc (prec f)) s q k (low f)
    go false = refl

-- rounding keeps the sign, also of a zero, and makes no NaN
pub sign_kept : (f : Format) (s : Bool) (num den : ℕ) → Signed s (round f s num den)
sign_kept f s num den = subst (λ (x : Float). Signed s x) (sym (round_is f s num den)) (units-signed f s _ _)
