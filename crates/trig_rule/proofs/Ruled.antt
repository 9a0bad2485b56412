-- The definitions by steps keep the rule at every f32 that is in reach, and answer with NaN elsewhere. Assumes nothing.
use mathlib.Core.Path.{◌≡◌, refl, sym, ap, ◌∙◌, subst}
use Prim.Native.Nat.{ℕ, ◌+◌, ◌*◌, ◌/◌, ◌%◌, ◌^◌, ◌≤◌, ◌<◌}
use native.Mathlib.Nat.{lt_of_not-le}
use native.Mathlib.Omega.{arith}
use native.Mathlib.Decide.{dec_le}
use mathlib.Core.Bool.{Bool, true, false, not, cond}
use lib.Dec.{T, leb, lit≤}
use lib.Ieee.{Float, nan, binary32, fits, of_bits, unlike}
use lib.Ieee.Bits.{is_true}
use borrow.Author.Tests.{le-ltb, lt-ltb}
use Rattle.floats.specs.Patterns.{hidden, sign_place}
use Rattle.trig_rule.specs.Sums.{whole, sine_side, cosine_side}
use Rattle.trig_rule.specs.Rule.{in_the_reach, Is, Within, SineRule, CosineRule}
use Rattle.trig_rule.specs.Steps.{tiny_bits, fixed_of, turns_of, rest_of, flip_of, sine_plus, sine_minus, cosine_plus, cosine_minus, gap_of, over_of, drop_of, pack_of, plain, sign_bit, sine_at, cosine_at, sine_of, cosine_of}
use Rattle.trig_rule.proofs.Patterns.{bit, with-sign, bits-value}
use Rattle.trig_rule.proofs.Packed.{pack-lt}
use Rattle.trig_rule.proofs.Bound.{SineAt, sine-at, CosineAt, cosine-at}
use Rattle.trig_rule.proofs.Scaled.{sine-rescaled, cosine-rescaled}
use Rattle.trig_rule.proofs.Turns.{rest_le, reduced}
use Rattle.trig_rule.proofs.Angles.{angle-value, Small, small-value, Signed, signed}
use Rattle.trig_rule.proofs.Reach.{reach-plain}
use Rattle.trig_rule.proofs.Little.{little-reduced, sine-little, cosine-little}

-- ---- signs
not-not : (b : Bool) → not (not b) ≡ b
not-not true = refl
not-not false = refl

bit_not : (t : Bool) → cond t 0 1 ≡ bit (not t)
bit_not true = refl
bit_not false = refl

signs : (a b c : Bool) → (bit a + bit b + bit c) % 2 ≡ bit (unlike (unlike a b) c)
signs false false false = refl
signs false false true = refl
signs false true false = refl
signs false true true = refl
signs true false false = refl
signs true false true = refl
signs true true false = refl
signs true true true = refl

again : (u v : Bool) → unlike u (unlike u v) ≡ v
again false false = refl
again false true = refl
again true false = refl
again true true = refl

drop_le : (R : ℕ) → drop_of R ≤ 60
drop_le R = omega arith

-- ---- the cases of the definitions
pub sine-far : (x : Float) → in_the_reach x ≡ false → sine_of x ≡ nan
unfolding sine_of
sine-far x h = simp h

pub sine-tiny : (x : Float) → in_the_reach x ≡ true → plain x < tiny_bits → sine_of x ≡ x
unfolding sine_of
sine-tiny x h l = simp (h, lt-ltb (plain x) tiny_bits l)

pub sine-main : (x : Float) → in_the_reach x ≡ true → tiny_bits ≤ plain x → sine_of x ≡ of_bits binary32 (sine_at (sign_bit x + flip_of (fixed_of (plain x))) (rest_of (fixed_of (plain x))))
unfolding sine_of
sine-main x h l = simp (h, le-ltb (plain x) tiny_bits l)

pub cosine-far : (x : Float) → in_the_reach x ≡ false → cosine_of x ≡ nan
unfolding cosine_of
cosine-far x h = simp h

pub cosine-tiny : (x : Float) → in_the_reach x ≡ true → plain x < tiny_bits → cosine_of x ≡ of_bits binary32 1065353216
unfolding cosine_of
cosine-tiny x h l = simp (h, lt-ltb (plain x) tiny_bits l)

pub cosine-main : (x : Float) → in_the_reach x ≡ true → tiny_bits ≤ plain x → cosine_of x ≡ of_bits binary32 (cosine_at (rest_of (fixed_of (plain x))))
unfolding cosine_of
cosine-main x h l = simp (h, le-ltb (plain x) tiny_bits l)

-- ---- from 2 ^ -12 to 64: the angle is X units of 2 ^ -56, and R is what the turns leave
module _ (x : Float) (f : T (fits binary32 x)) (lo : tiny_bits ≤ plain x) (hi : plain x ≤ 1115684864) where
  abbrev X : ℕ
  X = fixed_of (plain x)

  abbrev R : ℕ
  R = rest_of (fixed_of (plain x))

  abbrev flip : Bool
  flip = not (leb (turns_of (fixed_of (plain x))) (fixed_of (plain x)))

  s : Signed x
  s = signed x f

  is-angle : Is x s.minus (X * 2 ^ 93)
  is-angle = s.value (X * 2 ^ 93) (angle-value (plain x) lo hi)

  abbrev plus : Bool
  plus = leb (sine_minus (rest_of (fixed_of (plain x)))) (sine_plus (rest_of (fixed_of (plain x))))

  abbrev packed : ℕ
  packed = pack_of (R / 2 ^ drop_of R * gap_of (sine_plus R) (sine_minus R)) (drop_of R)

  sine-bits : sine_at (sign_bit x + flip_of X) R ≡ bit (unlike (unlike s.minus flip) (not plus)) * sign_place + packed
  sine-bits =
      ap (λ (n : ℕ). (n + flip_of X + over_of (sine_plus R) (sine_minus R)) % 2 * sign_place + packed) s.bits
      ∙ ap (λ (n : ℕ). (bit s.minus + n + over_of (sine_plus R) (sine_minus R)) % 2 * sign_place + packed) (bit_not (leb (turns_of X) X))
      ∙ ap (λ (n : ℕ). (bit s.minus + bit flip + n) % 2 * sign_place + packed) (bit_not plus)
      ∙ ap (λ (n : ℕ). n * sign_place + packed) (signs s.minus flip (not plus))

  sine-found : SineAt R
  sine-found = sine-at R (rest_le X)

  sine-rule : SineRule x (of_bits binary32 (sine_at (sign_bit x + flip_of X) R))
  sine-rule =
      let m = sine-found.units in
      let sign = unlike (unlike s.minus flip) (not plus) in
      let r = R * 2 ^ 93 in
      record {
        minus = s.minus;
        size = X * 2 ^ 93;
        angle = is-angle;
        rest = r;
        below = flip;
        reduced = reduced X;
        negative = sign;
        units = m;
        answer = subst (λ (b : ℕ). Is (of_bits binary32 b) sign m) (sym sine-bits)
            (with-sign sign packed m (pack-lt (R / 2 ^ drop_of R * gap_of (sine_plus R) (sine_minus R)) (drop_of R) (drop_le R)) sine-found.value);
        within = subst (λ (o : Bool). Within m (sine_side (not o) r (2 ^ 149)) (sine_side o r (2 ^ 149)) (whole 31 (2 ^ 149))) (sym (again (unlike s.minus flip) (not plus)))
            (subst (λ (b : Bool). Within m (sine_side b r (2 ^ 149)) (sine_side (not plus) r (2 ^ 149)) (whole 31 (2 ^ 149))) (sym (not-not plus)) (sine-rescaled m R plus sine-found.bound));
      }

  abbrev right : Bool
  right = leb (cosine_minus (rest_of (fixed_of (plain x)))) (cosine_plus (rest_of (fixed_of (plain x))))

  cosine-found : CosineAt R
  cosine-found = cosine-at R (rest_le X)

  cosine-rule : CosineRule x (of_bits binary32 (cosine_at R))
  cosine-rule =
      let m = cosine-found.units in
      let g = pack_of (gap_of (cosine_plus R) (cosine_minus R)) 58 in
      let r = R * 2 ^ 93 in
      record {
        minus = s.minus;
        size = X * 2 ^ 93;
        angle = is-angle;
        rest = r;
        below = flip;
        reduced = reduced X;
        negative = not right;
        units = m;
        answer = subst (λ (n : ℕ). Is (of_bits binary32 (n * sign_place + g)) (not right) m) (sym (bit_not right))
            (with-sign (not right) g m (pack-lt (gap_of (cosine_plus R) (cosine_minus R)) 58 (omega arith)) cosine-found.value);
        within = subst (λ (b : Bool). Within m (cosine_side b r (2 ^ 149)) (cosine_side (not right) r (2 ^ 149)) (whole 30 (2 ^ 149))) (sym (not-not right)) (cosine-rescaled m R right cosine-found.bound);
      }

-- ---- below 2 ^ -12
same : (s : Bool) → unlike (unlike s false) s ≡ false
same true = refl
same false = refl

one_value : Is (of_bits binary32 1065353216) false (2 ^ 149)
one_value = bits-value 126 hidden (lit≤ tt) (lit≤ tt) (lit≤ tt)

module _ (x : Float) (f : T (fits binary32 x)) (lo : plain x < tiny_bits) where
  sign : Signed x
  sign = signed x f

  small : Small (plain x)
  small = small-value (plain x) lo

  is-small : Is x sign.minus small.units
  is-small = sign.value small.units small.value

  little-sine-rule : SineRule x x
  little-sine-rule =
      let n = small.units in
      record {
        minus = sign.minus;
        size = n;
        angle = is-small;
        rest = n;
        below = false;
        reduced = little-reduced n small.under;
        negative = sign.minus;
        units = n;
        answer = is-small;
        within = subst (λ (o : Bool). Within n (sine_side (not o) n (2 ^ 149)) (sine_side o n (2 ^ 149)) (whole 31 (2 ^ 149))) (sym (same sign.minus)) (sine-little n small.under);
      }

  little-cosine-rule : CosineRule x (of_bits binary32 1065353216)
  little-cosine-rule =
      let n = small.units in
      record {
        minus = sign.minus;
        size = n;
        angle = is-small;
        rest = n;
        below = false;
        reduced = little-reduced n small.under;
        negative = false;
        units = 2 ^ 149;
        answer = one_value;
        within = cosine-little n small.under;
      }

-- ---- every f32 of at most 64 in size
pub sine-keeps-rule : (x : Float) → T (fits binary32 x) → T (in_the_reach x) → SineRule x (sine_of x)
sine-keeps-rule x f t = go (dec_le tiny_bits (plain x))
  where
    go : Dec (tiny_bits ≤ plain x) → SineRule x (sine_of x)
    go (yes l) = subst (λ (y : Float). SineRule x y) (sym (sine-main x (is_true (in_the_reach x) t) l)) (sine-rule x f l (reach-plain x f t))
    go (no g) = subst (λ (y : Float). SineRule x y) (sym (sine-tiny x (is_true (in_the_reach x) t) (lt_of_not-le g))) (little-sine-rule x f (lt_of_not-le g))

pub cosine-keeps-rule : (x : Float) → T (fits binary32 x) → T (in_the_reach x) → CosineRule x (cosine_of x)
cosine-keeps-rule x f t = go (dec_le tiny_bits (plain x))
  where
    go : Dec (tiny_bits ≤ plain x) → CosineRule x (cosine_of x)
    go (yes l) = subst (λ (y : Float). CosineRule x y) (sym (cosine-main x (is_true (in_the_reach x) t) l)) (cosine-rule x f l (reach-plain x f t))
    go (no g) = subst (λ (y : Float). CosineRule x y) (sym (cosine-tiny x (is_true (in_the_reach x) t) (lt_of_not-le g))) (little-cosine-rule x f (lt_of_not-le g))
