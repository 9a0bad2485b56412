-- The size of an angle from its bits: at least 2 ^ -12, as the steps take it, and below. Assumes nothing.
use mathlib.Core.Path.{◌≡◌, sym, ap, ◌∙◌, subst}
use Prim.Native.Nat.{ℕ, ◌+◌, ◌-◌, ◌*◌, ◌/◌, ◌%◌, ◌^◌, ◌≤◌, ◌<◌}
use native.Mathlib.Nat.{lt_of_lt_of_le, lt_of_le_of_lt, lt_of_not-le, mul_assoc, mul-le-mul}
use native.Mathlib.Omega.{arith}
use native.Mathlib.Decide.{dec_le}
use mathlib.Core.Bool.{Bool, false}
use lib.Dec.{T, lit≤, lit<}
use lib.Pow.{pow-add, pow_mono}
use lib.Ieee.{Float, binary32, fits, to_bits, of_bits}
use lib.Ieee.Bits.{of_bits-to_bits, to_bits-lt}
use Rattle.floats.specs.Patterns.{hidden, sign_place}
use Rattle.trig_rule.specs.Rule.{Is}
use Rattle.trig_rule.specs.Steps.{tiny_bits, fixed_of, plain, sign_bit}
use Rattle.trig_rule.proofs.Patterns.{bit, with-sign, sign_of_bits, sign_and_rest, normal-value, subnormal-value}

-- ---- bits without the sign
-- at least 2 ^ -33, so that it is a whole number of 2 ^ -56
pub angle-value : (a : ℕ) → tiny_bits ≤ a → a ≤ 1115684864 → Is (of_bits binary32 a) false (fixed_of a * 2 ^ 93)
angle-value a lo hi = subst (λ (n : ℕ). Is (of_bits binary32 a) false n) value (normal-value a (omega arith) (omega arith))
  where
    split : a / hidden - 1 ≡ a / hidden - 94 + 93
    split = omega arith

    value : (a % hidden + hidden) * 2 ^ (a / hidden - 1) ≡ (a % hidden + hidden) * 2 ^ (a / hidden - 94) * 2 ^ 93
    value =
        ap (λ (k : ℕ). (a % hidden + hidden) * 2 ^ k) split ∙ ap (λ (n : ℕ). (a % hidden + hidden) * n) (pow-add 2 (a / hidden - 94) 93) ∙ sym (mul_assoc (a % hidden + hidden) (2 ^ (a / hidden - 94)) (2 ^ 93))

-- below 2 ^ -12
pub record Small (a : ℕ) : Type 0 where
  pub units : ℕ
  pub value : Is (of_bits binary32 a) false units
  pub under : units < 2 ^ 137

pub small-value : (a : ℕ) → a < tiny_bits → Small a
small-value a h = go (dec_le hidden a)
  where
    go : Dec (hidden ≤ a) → Small a
    go (yes k) =
        let f : a / hidden - 1 ≤ 113 = omega arith in
        let q : a % hidden + hidden ≤ 16777215 = omega arith in
        record { units = (a % hidden + hidden) * 2 ^ (a / hidden - 1); value = normal-value a k (omega arith); under = lt_of_le_of_lt (mul-le-mul q (pow_mono f)) (lit< tt) }
    go (no g) = record { units = a; value = subnormal-value a (lt_of_not-le g); under = lt_of_lt_of_le h (lit≤ tt) }

-- ---- a float with the sign that its bits have
pub record Signed (x : Float) : Type 0 where
  pub minus : Bool
  pub bits : sign_bit x ≡ bit minus
  pub value : (n : ℕ) → Is (of_bits binary32 (plain x)) false n → Is x minus n

pub signed : (x : Float) → T (fits binary32 x) → Signed x
signed x f =
    let b = to_bits binary32 x in
    let p = sign_of_bits b (to_bits-lt binary32 x f) in
    record {
      minus = p.0;
      bits = p.1;
      value = λ n v.
          subst (λ (y : Float). Is y p.0 n) (of_bits-to_bits binary32 x f)
          (subst (λ (c : ℕ). Is (of_bits binary32 c) p.0 n) (sym (sign_and_rest b p.0 p.1)) (with-sign p.0 (b % sign_place) n (omega arith) v));
    }
