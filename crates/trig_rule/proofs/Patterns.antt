-- What bit patterns of binary32 stand for, as fractions of whole numbers. Assumes nothing.
use mathlib.Core.Path.{◌≡◌, refl, sym, ap, ◌∙◌, subst}
use mathlib.Core.Logic.{inl, inr}
use Prim.Native.Nat.{ℕ, zero, suc, ◌+◌, ◌-◌, ◌*◌, ◌/◌, ◌%◌, ◌^◌, ◌≤◌, ◌<◌}
use native.Mathlib.Nat.{lt_of_not-le, eq-or-lt_of_le, mod-eq_of_lt, mul_assoc, mul-one, zero-add, add_comm, pow-succ', div-add-mod'}
use native.Mathlib.Omega.{arith}
use native.Mathlib.Decide.{dec_le}
use mathlib.Core.Bool.{Bool, true, false, cond}
use lib.IntN.{ℤ}
use lib.Dec.{T, leb, eqb, eqb→eq, not_T}
use lib.Ieee.{Float, nan, inf, fin, binary32, odd, of_fields, of_bits}
use lib.Ieee.Bits.{cond_no}
use lib.Ieee.Exact.{HasValue, odd_sign}
use borrow.Author.Tests.{le-leb, lt-leb}
use Rattle.floats.specs.Patterns.{hidden, infinity_bits, sign_place}
use Rattle.trig_rule.specs.Rule.{Is}

-- ---- the fields of a pattern without and with the sign's bit
pub of_pattern-plus : (b : ℕ) → b < sign_place → of_bits binary32 b ≡ of_fields binary32 false (b / hidden) (b % hidden)
unfolding of_bits
of_pattern-plus b h =
    ap (λ (s : Bool). of_fields binary32 s (b % sign_place / hidden) (b % hidden)) (lt-leb sign_place b h)
    ∙ ap (λ (y : ℕ). of_fields binary32 false (y / hidden) (b % hidden)) (mod-eq_of_lt h)

pub of_pattern-minus : (b : ℕ) → b < sign_place → of_bits binary32 (sign_place + b) ≡ of_fields binary32 true (b / hidden) (b % hidden)
unfolding of_bits
of_pattern-minus b h =
    ap (λ (s : Bool). of_fields binary32 s ((sign_place + b) % sign_place / hidden) ((sign_place + b) % hidden)) (le-leb sign_place (sign_place + b) (omega arith))
    ∙ ap (λ (y : ℕ). of_fields binary32 true y ((sign_place + b) % hidden)) high
    ∙ ap (λ (y : ℕ). of_fields binary32 true (b / hidden) y) low
  where
    high : (sign_place + b) % sign_place / hidden ≡ b / hidden
    high = omega arith

    low : (sign_place + b) % hidden ≡ b % hidden
    low = omega arith

-- ---- the sign's bit alone turns the sign over
odd-minus : (d q k l a c : ℕ) → HasValue (odd d false q k l) false a c → HasValue (odd d true q k l) true a c
unfolding odd
odd-minus d zero k l a c h = (refl, h.1)
odd-minus d (suc q) k l a c h = (refl, h.1)

fields-minus : (x t a c : ℕ) → HasValue (of_fields binary32 false x t) false a c → HasValue (of_fields binary32 true x t) true a c
unfolding of_fields
fields-minus zero t a c h = odd-minus 24 t 0 149 a c h
fields-minus (suc x) t a c h = go (eqb (suc x) 255) (eqb t 0) h
  where
    go : (b z : Bool) → HasValue (cond b (cond z (inf false) nan) (odd 24 false (hidden + t) x 149)) false a c → HasValue (cond b (cond z (inf true) nan) (odd 24 true (hidden + t) x 149)) true a c
    go true true k = absurd k
    go true false k = absurd k
    go false z k = odd-minus 24 (hidden + t) x 149 a c k

abbrev pub bit : Bool → ℕ
bit false = 0
bit true = 1

-- bits below 2 ^ 31, with a sign before them
pub with-sign : (s : Bool) (b a : ℕ) → b < sign_place → Is (of_bits binary32 b) false a → Is (of_bits binary32 (bit s * sign_place + b)) s a
with-sign false b a h v = subst (λ (n : ℕ). Is (of_bits binary32 n) false a) (sym (zero-add b)) v
with-sign true b a h v =
    subst (λ (x : Float). Is x true a) (sym (of_pattern-minus b h)) (fields-minus (b / hidden) (b % hidden) a (2 ^ 149) (subst (λ (x : Float). Is x false a) (of_pattern-plus b h) v))

pub sign_of_bits : (b : ℕ) → b < 4294967296 → (s : Bool) × (b / sign_place ≡ bit s)
sign_of_bits b h = go (dec_le sign_place b)
  where
    go : Dec (sign_place ≤ b) → (s : Bool) × (b / sign_place ≡ bit s)
    go (yes k) = (true, omega arith)
    go (no f) = (false, omega arith)

-- a pattern is its sign's bit and the bits below it
pub sign_and_rest : (b : ℕ) (s : Bool) → b / sign_place ≡ bit s → b ≡ bit s * sign_place + b % sign_place
sign_and_rest b s e = sym (div-add-mod' b sign_place) ∙ ap (λ (n : ℕ). n * sign_place + b % sign_place) e

-- ---- normal numbers: a field x + 1 below 255 and the digits t stand for (2 ^ 23 + t) * 2 ^ x units
differ : (x : ℕ) → suc x < 255 → suc x ≡ 255 → ⊥
differ x h e = omega arith

under_ones : (t x : ℕ) → suc x < 255 → of_fields binary32 false (suc x) t ≡ odd 24 false (hidden + t) x 149
unfolding of_fields
under_ones t x h = cond_no (eqb (suc x) 255) (cond (eqb t 0) (inf false) nan) (odd 24 false (hidden + t) x 149) (not_T (eqb (suc x) 255) (λ (u : T (eqb (suc x) 255)). differ x h (eqb→eq (suc x) 255 u)))

fields : (x t b : ℕ) → b ≡ suc x * hidden + t → t < hidden → suc x < 255 → of_bits binary32 b ≡ odd 24 false (hidden + t) x 149
fields x t b e ht hx =
    of_pattern-plus b low ∙ ap (λ (y : ℕ). of_fields binary32 false y (b % hidden)) high ∙ ap (λ (y : ℕ). of_fields binary32 false (suc x) y) rest ∙ under_ones t x hx
  where
    low : b < sign_place
    low = omega arith

    high : b / hidden ≡ suc x
    high = omega arith

    rest : b % hidden ≡ t
    rest = omega arith

pub normal-value : (a : ℕ) → hidden ≤ a → a < infinity_bits → Is (of_bits binary32 a) false ((a % hidden + hidden) * 2 ^ (a / hidden - 1))
normal-value a lo hi =
    subst (λ (n : ℕ). Is (of_bits binary32 a) false (n * 2 ^ (a / hidden - 1))) (add_comm hidden (a % hidden))
    (subst (λ (x : Float). Is x false ((hidden + a % hidden) * 2 ^ (a / hidden - 1))) (sym (fields (a / hidden - 1) (a % hidden) a (omega arith) (omega arith) (omega arith)))
    (odd_sign 24 false (hidden + a % hidden) (a / hidden - 1) 149))

-- f * 2 ^ 23 + q, for q from 2 ^ 23 to 2 ^ 24, stands for q * 2 ^ f units
pub bits-value : (f q : ℕ) → hidden ≤ q → q ≤ 16777216 → f < 250 → Is (of_bits binary32 (f * hidden + q)) false (q * 2 ^ f)
bits-value f q lo hi hf =
    elim (eq-or-lt_of_le hi) [
      | inl e ↦
          subst (λ (n : ℕ). Is (of_bits binary32 (f * hidden + q)) false n) (twice e)
          (subst (λ (x : Float). Is x false ((hidden + 0) * 2 ^ suc f)) (sym (fields (suc f) 0 (f * hidden + q) (carry e) (omega arith) (omega arith))) (odd_sign 24 false (hidden + 0) (suc f) 149))
      | inr l ↦
          subst (λ (n : ℕ). Is (of_bits binary32 (f * hidden + q)) false (n * 2 ^ f)) back
          (subst (λ (x : Float). Is x false ((hidden + (q - hidden)) * 2 ^ f)) (sym (fields f (q - hidden) (f * hidden + q) plain (below l) (omega arith))) (odd_sign 24 false (hidden + (q - hidden)) f 149))
    ]
  where
    carry : q ≡ 16777216 → f * hidden + q ≡ suc (suc f) * hidden + 0
    carry e = omega arith

    twice : q ≡ 16777216 → (hidden + 0) * 2 ^ suc f ≡ q * 2 ^ f
    twice e = ap (λ (n : ℕ). hidden * n) (pow-succ' 2 f) ∙ sym (mul_assoc hidden 2 (2 ^ f)) ∙ ap (λ (n : ℕ). n * 2 ^ f) (sym e)

    back : hidden + (q - hidden) ≡ q
    back = omega arith

    plain : f * hidden + q ≡ suc f * hidden + (q - hidden)
    plain = omega arith

    below : q < 16777216 → q - hidden < hidden
    below l = omega arith

-- ---- subnormal numbers and zero
zero_field : (t : ℕ) → Is (of_fields binary32 false 0 t) false (t * 1)
unfolding of_fields
zero_field t = odd_sign 24 false t 0 149

pub subnormal-value : (a : ℕ) → a < hidden → Is (of_bits binary32 a) false a
subnormal-value a h =
    subst (λ (x : Float). Is x false a) (sym (of_pattern-plus a (omega arith)))
    (subst (λ (k : ℕ). Is (of_fields binary32 false k (a % hidden)) false a) (sym none) (at_zero (a % hidden) a (omega arith)))
  where
    none : a / hidden ≡ 0
    none = omega arith

    at_zero : (t n : ℕ) → t ≡ n → Is (of_fields binary32 false 0 t) false n
    at_zero t n e = subst (λ (m : ℕ). Is (of_fields binary32 false 0 t) false m) (mul-one t ∙ e) (zero_field t)

-- ---- patterns with all ones in the exponent's field are not finite
top_field : (s t : Bool) (d m : ℕ) (e : ℤ) → of_fields binary32 s 255 d ≡ fin t m e → ⊥
unfolding of_fields
top_field s t d m e h = go (eqb d 0) h
  where
    go : (z : Bool) → cond z (inf s) nan ≡ fin t m e → ⊥
    go true k =
        let z : ◌≡◌ {A = ℕ} 0 1 = cc in
        omega arith
    go false k =
        let z : ◌≡◌ {A = ℕ} 0 1 = cc in
        omega arith

pub finite-lt : (b : ℕ) (t : Bool) (m : ℕ) (e : ℤ) → b < 4294967296 → of_bits binary32 b ≡ fin t m e → b % sign_place < infinity_bits
unfolding of_bits
finite-lt b t m e h k = go (dec_le infinity_bits (b % sign_place))
  where
    go : Dec (infinity_bits ≤ b % sign_place) → b % sign_place < infinity_bits
    go (yes l) =
        let x : b % sign_place / hidden ≡ 255 = omega arith in
        absurd (top_field (leb sign_place b) t (b % hidden) m e (ap (λ (n : ℕ). of_fields binary32 (leb sign_place b) n (b % hidden)) (sym x) ∙ k))
    go (no f) = lt_of_not-le f
