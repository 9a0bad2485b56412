-- An angle is in reach exactly where it is finite and at most 64 in size, and then its bits without the sign are at most those of 64.
-- Likewise the bits are below those of 2 ^ -12 exactly where the size is. Assumes nothing.
use mathlib.Core.Path.{◌≡◌, refl, sym, ap, ◌∙◌, subst}
use mathlib.Core.Logic.{inl, inr}
use Prim.Native.Nat.{ℕ, ◌+◌, ◌-◌, ◌*◌, ◌/◌, ◌%◌, ◌^◌, ◌≤◌, ◌<◌}
use native.Mathlib.Nat.{le_trans, le_of_eq, le_of_lt, lt_of_lt_of_le, lt_of_not-le, not-le_of_lt, eq-or-lt_of_le, mul_right_comm, mul-one, mul-le-mul, mul-le-mul_right, le_of_mul-le-mul_right}
use native.Mathlib.Omega.{arith}
use native.Mathlib.Decide.{dec_le}
use mathlib.Core.Bool.{Bool, true, false, ◌&&◌, ◌||◌}
use lib.Dec.{T, ltb, eqb, ltb→lt, lt→ltb, eqb→eq, lit≤, lit<}
use lib.Pow.{pow_pos, pow_mono}
use lib.IntN.{ℤ, pos}
use lib.Ieee.{Float, nan, inf, fin, up, down, below, level, binary32, fits, to_bits, of_bits, le, is_nan}
use lib.Ieee.Bits.{of_bits-to_bits, to_bits-lt}
use lib.Ieee.Fits.{and_l, and_r, and_i, eq→eqb, down_pos}
use Rattle.floats.specs.Patterns.{hidden, infinity_bits}
use Rattle.trig_rule.specs.Rule.{in_the_reach, Is}
use Rattle.trig_rule.specs.Steps.{tiny_bits, plain}
use Rattle.trig_rule.proofs.Patterns.{normal-value, subnormal-value, finite-lt}
use Rattle.trig_rule.proofs.Angles.{Signed, signed}

-- ---- the comparisons of ±a with -b and b
or_l : (a b : Bool) → T a → T (a || b)
or_l true b t = tt
or_l false b t = absurd t

or_r : (a b : Bool) → T b → T (a || b)
or_r true b t = tt
or_r false b t = t

of_or : (a b : ℕ) (c : Bool) → T (ltb a b || (c && true)) → (T c → a ≡ b) → a ≤ b
of_or a b c t k = go (ltb a b) c t (λ u. ltb→lt a b u) k
  where
    go : (l c : Bool) → T (l || (c && true)) → (T l → a < b) → (T c → a ≡ b) → a ≤ b
    go true c t h k = le_of_lt (h tt)
    go false true t h k = le_of_eq (k tt)
    go false false t h k = absurd t

to-or : (a b : ℕ) (c : Bool) → a ≤ b → (a ≡ b → T c) → T (ltb a b || (c && true))
to-or a b c h k = elim (eq-or-lt_of_le h) [ inl e ↦ or_r (ltb a b) (c && true) (both c (k e)) | inr l ↦ or_l (ltb a b) (c && true) (lt→ltb a b l) ]
  where
    both : (x : Bool) → T x → T (x && true)
    both true t = tt
    both false t = t

between : (s : Bool) (a b : ℕ) → T ((below true b s a || level true b s a) && (below s a false b || level s a false b)) → a ≤ b
between false a b t = of_or a b (eqb a b) (and_r (below true b false a || level true b false a) (ltb a b || (eqb a b && true)) t) (λ u. eqb→eq a b u)
between true a b t = of_or a b (eqb b a) (and_l (ltb a b || (eqb b a && true)) (below true a false b || level true a false b) t) (λ u. sym (eqb→eq b a u))

to-between : (s : Bool) (a b : ℕ) → 0 < b → a ≤ b → T ((below true b s a || level true b s a) && (below s a false b || level s a false b))
to-between false a b p h =
    and_i (below true b false a || level true b false a) (below false a false b || level false a false b) (or_l (ltb 0 (b + a)) (level true b false a) (lt→ltb 0 (b + a) (omega arith))) (to-or a b (eqb a b) h (λ e. eq→eqb e))
to-between true a b p h =
    and_i (below true b true a || level true b true a) (below true a false b || level true a false b) (to-or a b (eqb b a) h (λ e. eq→eqb (sym e))) (or_l (ltb 0 (a + b)) (level true a false b) (lt→ltb 0 (a + b) (omega arith)))

-- ---- the reach, by the size
sixty-four : of_bits binary32 1115684864 ≡ fin false 1 (pos 6)
unfolding of_bits
sixty-four = refl

minus-sixty-four : of_bits binary32 3263168512 ≡ fin true 1 (pos 6)
unfolding of_bits
minus-sixty-four = refl

reach-is : (x : Float) → in_the_reach x ≡ (le (fin true 1 (pos 6)) x && le x (fin false 1 (pos 6)))
reach-is x = ap (λ (y : Float). le y x && le x (of_bits binary32 1115684864)) minus-sixty-four ∙ ap (λ (y : Float). le (fin true 1 (pos 6)) x && le x y) sixty-four

-- a / d is n units: it is at most 64 where n is at most 64 * 2 ^ 149
in-units : (a d n : ℕ) → 0 < d → a * 2 ^ 149 ≡ n * d → a * 1 ≤ 64 * d → n ≤ 2 ^ 155
in-units a d n p e h =
    le_of_mul-le-mul_right {k = d}
    (le_trans (le_of_eq (sym e)) (le_trans (mul-le-mul_right (2 ^ 149) (le_trans (le_of_eq (sym (mul-one a))) h)) (le_of_eq (mul_right_comm 64 d (2 ^ 149))))) p

of-units : (a d n : ℕ) → a * 2 ^ 149 ≡ n * d → n ≤ 2 ^ 155 → a * 1 ≤ 64 * d
of-units a d n e h =
    le_of_mul-le-mul_right {k = 2 ^ 149}
    (le_trans (le_of_eq (ap (λ (m : ℕ). m * 2 ^ 149) (mul-one a) ∙ e)) (le_trans (mul-le-mul_right d h) (le_of_eq (mul_right_comm 64 (2 ^ 149) d)))) (pow_pos 149)

pub reach-size : (x : Float) (s : Bool) (n : ℕ) → Is x s n → T (in_the_reach x) → n ≤ 2 ^ 155
unfolding le
reach-size nan s n v t = absurd v
reach-size (inf u) s n v t = absurd v
reach-size (fin u m e) s n v t = in-units (m * up e) (down e) n (down_pos e) v.1 (between u (m * up e * 1) (64 * down e) (subst T (reach-is (fin u m e)) t))

pub size-reach : (x : Float) (s : Bool) (n : ℕ) → Is x s n → n ≤ 2 ^ 155 → T (in_the_reach x)
unfolding le
size-reach nan s n v h = absurd v
size-reach (inf u) s n v h = absurd v
size-reach (fin u m e) s n v h = subst T (sym (reach-is (fin u m e))) (to-between u (m * up e * 1) (64 * down e) (wide (down_pos e)) (of-units (m * up e) (down e) n v.1 h))
  where
    wide : 0 < down e → 0 < 64 * down e
    wide p = omega arith

-- no NaN and no infinity is in reach
pub reach-finite : (x : Float) → T (in_the_reach x) → (s : Bool) × (m : ℕ) × (e : ℤ) × (x ≡ fin s m e)
unfolding le
reach-finite nan t = absurd (subst T (reach-is nan) t)
reach-finite (inf true) t = absurd (subst T (reach-is (inf true)) t)
reach-finite (inf false) t = absurd (subst T (reach-is (inf false)) t)
reach-finite (fin s m e) t = (s, m, e, refl)

-- ---- a finite float's size, from its bits without the sign
pub record Sized (x : Float) : Type 0 where
  pub minus : Bool
  pub units : ℕ
  pub value : Is x minus units
  pub from-tiny : tiny_bits ≤ plain x → 2 ^ 137 ≤ units
  pub from-far : 1115684864 < plain x → 2 ^ 155 < units

far : (f q : ℕ) → hidden ≤ q → 132 ≤ f → (f ≡ 132 → hidden < q) → 2 ^ 155 < q * 2 ^ f
far f q hq hf k =
    elim (eq-or-lt_of_le hf) [
      | inl e ↦ lt_of_lt_of_le (lit< tt) (mul-le-mul (k (sym e)) (pow_mono hf))
      | inr l ↦ lt_of_lt_of_le (lit< tt) (mul-le-mul hq (pow_mono l))
    ]

pub sized : (x : Float) (t : Bool) (m : ℕ) (e : ℤ) → T (fits binary32 x) → x ≡ fin t m e → Sized x
sized x t m e f h = go (dec_le hidden (plain x))
  where
    a : ℕ
    a = plain x

    s : Signed x
    s = signed x f

    finite : plain x < infinity_bits
    finite = finite-lt (to_bits binary32 x) t m e (to_bits-lt binary32 x f) (of_bits-to_bits binary32 x f ∙ h)

    go : Dec (hidden ≤ plain x) → Sized x
    go (yes k) =
        record {
          minus = s.minus;
          units = (a % hidden + hidden) * 2 ^ (a / hidden - 1);
          value = s.value ((a % hidden + hidden) * 2 ^ (a / hidden - 1)) (normal-value a k finite);
          from-tiny = λ (l : tiny_bits ≤ plain x). le_trans (lit≤ tt) (mul-le-mul (low (a % hidden)) (pow_mono (field l)));
          from-far = λ (l : 1115684864 < plain x). far (a / hidden - 1) (a % hidden + hidden) (low (a % hidden)) (omega arith) (λ e. omega arith);
        }
      where
        low : (r : ℕ) → hidden ≤ r + hidden
        low r = omega arith

        field : tiny_bits ≤ plain x → 114 ≤ plain x / hidden - 1
        field l = omega arith
    go (no g) =
        record {
          minus = s.minus;
          units = a;
          value = s.value a (subnormal-value a (lt_of_not-le g));
          from-tiny = λ (l : tiny_bits ≤ plain x). absurd (g (le_trans (omega arith) l));
          from-far = λ (l : 1115684864 < plain x). absurd (g (le_trans (omega arith) l));
        }

-- ---- what the steps ask of the bits
pub reach-plain : (x : Float) → T (fits binary32 x) → T (in_the_reach x) → plain x ≤ 1115684864
reach-plain x f t = go (dec_le (plain x) 1115684864)
  where
    go : Dec (plain x ≤ 1115684864) → plain x ≤ 1115684864
    go (yes h) = h
    go (no g) =
        let c = reach-finite x t in
        let z = sized x c.0 c.1 c.2 f c.3 in
        absurd (not-le_of_lt (z.from-far (lt_of_not-le g)) (reach-size x z.minus z.units z.value t))

pub reach-not-nan : (x : Float) → T (in_the_reach x) → is_nan x ≡ false
unfolding is_nan
reach-not-nan x t = let c = reach-finite x t in ap is_nan c.3
