-- A fused multiply-add, which the language cannot write: x * y + z rounded once. It is here to be ruled out, and to be judged where it does no harm. Assumes nothing.
use mathlib.Core.Path.{◌≡◌, refl, sym, ap, ◌∙◌, subst}
use mathlib.Core.Logic.{◌⊎◌, inl, inr}
use Prim.Native.Nat.{ℕ, zero-le, ◌+◌, ◌-◌, ◌*◌, ◌^◌, ◌≤◌, ◌<◌}
use native.Mathlib.Nat.{le_trans, le_of_eq, le_of_lt, mul-pos, zero-mul, mul_comm, mul_assoc, mul_left_comm, mul-sub, mul-le-mul_right, le_of_mul-le-mul_right, mul-mul-mul_comm}
use native.Mathlib.Omega.{arith}
use mathlib.Core.Bool.{Bool, true, false, not, cond, true≢false}
use lib.Dec.{T, ltb, leb, eqb, ltb→lt, nltb→le, leb→le, nleb→lt, eqb→eq}
use lib.IntN.{ℤ, pos}
use lib.Ieee.{Float, of_bits, nan, inf, fin, binary32, prec, emax, low, up, down, unlike, odd, units, round, sum, neg, div, lt, le, eq}
use lib.Ieee.Fits.{down_pos, round_is}
use lib.Ieee.Exact.{HasValue, odd_sign}
use lib.Ieee.Order.{drop, kept}
use lib.Ieee.Positive.{num, den, den_pos}
use Rattle.floats.specs.Floats.{zero_f}
use Rattle.floats.specs.Kinds.{real, nonneg}
use Rattle.floats.proofs.Tests.{decide}
use Rattle.floats.proofs.Order.{le-le-trans, le-self, le-real-l}
use Rattle.floats.proofs.Signs.{signed→le}
use Rattle.floats.proofs.Fractions.{zero-size, nonneg-real, le→cross}
use Rattle.floats.proofs.Rounded.{Rounds, rounds-mono, div-rounds}
use Rattle.floats.proofs.Monotone.{cross-add, div_mono}
use Rattle.floats.proofs.Held.{held-above, rounds-real}
use Rattle.floats.proofs.Constants.{zero_held, zero-num}

-- The product and the sum are exact, and the sum is rounded. Only a finite product is asked for here.
unfoldable pub fused_of : Float → Float → Float → Float
fused_of nan y z = nan
fused_of (inf s) y z = nan
fused_of (fin s m e) nan z = nan
fused_of (fin s m e) (inf t) z = nan
fused_of (fin s m e) (fin t n d) nan = nan
fused_of (fin s m e) (fin t n d) (inf u) = inf u
fused_of (fin s m e) (fin t n d) (fin u o g) = sum binary32 (unlike s t) (m * up e * (n * up d) * down g) u (o * up g * (down e * down d)) (down e * down d * down g)

-- ---- a sum of two signed fractions over one denominator, rounded
no_sign : {A : Type 0} → false ≡ true → A
no_sign e = absurd (true≢false (sym e))

-- neither below zero
sum-rounds : (s t : Bool) (a b c : ℕ) → 0 < c → (s ≡ true → a ≡ 0) → (t ≡ true → b ≡ 0) → Rounds binary32 (sum binary32 s a t b c) (a + b) c
unfolding sum
sum-rounds false false a b c C p q = record { sign = false; same = refl; only_zero = no_sign; above = C }
sum-rounds true true a b c C p q = record { sign = true; same = refl; only_zero = λ e. both a b (p refl) (q refl); above = C }
  where
    both : (a b : ℕ) → a ≡ 0 → b ≡ 0 → a + b ≡ 0
    both a b p q = omega arith
sum-rounds false true a b c C p q = go (ltb a b) (ltb→lt a b)
  where
    none : (a b : ℕ) → b ≡ 0 → a < b → ⊥
    none a b e h = omega arith

    even : (a b : ℕ) → b ≡ 0 → a - b ≡ a + b
    even a b e = omega arith

    go : (u : Bool) → (T u → a < b) → Rounds binary32 (cond u (round binary32 true (b - a) c) (round binary32 false (a - b) c)) (a + b) c
    go true h = absurd (none a b (q refl) (h tt))
    go false h = record { sign = false; same = ap (λ (n : ℕ). round binary32 false n c) (even a b (q refl)); only_zero = no_sign; above = C }
sum-rounds true false a b c C p q = go (ltb a b) (ltb b a) (nltb→le a b) (ltb→lt b a)
  where
    none : (a b : ℕ) → a ≡ 0 → b < a → ⊥
    none a b e h = omega arith

    under : (a b : ℕ) → a ≡ 0 → b - a ≡ a + b
    under a b e = omega arith

    over : (a b : ℕ) → a ≡ 0 → b ≤ a → a - b ≡ a + b
    over a b e h = omega arith

    go : (u v : Bool) → (T (not u) → b ≤ a) → (T v → b < a) → Rounds binary32 (cond u (round binary32 false (b - a) c) (round binary32 v (a - b) c)) (a + b) c
    go true v h k = record { sign = false; same = ap (λ (n : ℕ). round binary32 false n c) (under a b (p refl)); only_zero = no_sign; above = C }
    go false true h k = absurd (none a b (p refl) (k tt))
    go false false h k = record { sign = false; same = ap (λ (n : ℕ). round binary32 false n c) (over a b (p refl) (h tt)); only_zero = no_sign; above = C }

-- what is rounded with a minus sign is at most 0
abbrev downward : Float → Bool
downward nan = false
downward (inf s) = s
downward (fin s m e) = s

value-downward : (x : Float) (a c : ℕ) → HasValue x true a c → T (downward x)
value-downward nan a c h = absurd h
value-downward (inf s) a c h = absurd h
value-downward (fin true m e) a c h = tt
value-downward (fin false m e) a c h = absurd (true≢false (sym h.0))

round-downward : (a c : ℕ) → T (downward (round binary32 true a c))
round-downward a c = subst (λ (x : Float). T (downward x)) (sym (round_is binary32 true a c)) (in-units (kept (prec binary32) (a * 2 ^ low binary32) c) (drop (prec binary32) (a * 2 ^ low binary32) c))
  where
    in-units : (q k : ℕ) → T (downward (units binary32 true q k))
    in-units q k = unfold units in (go (ltb (q * 2 ^ k) (2 ^ (low binary32 + (1 + emax binary32)))))
      where
        go : (b : Bool) → T (downward (cond b (odd (1 + prec binary32) true q k (low binary32)) (inf true)))
        go true = value-downward (odd (1 + prec binary32) true q k (low binary32)) (q * 2 ^ k) (2 ^ low binary32) (odd_sign (1 + prec binary32) true q k (low binary32))
        go false = tt

downward-low : (x : Float) → T (downward x) → T (le x zero_f)
unfolding zero_f of_bits le lt eq
downward-low nan h = absurd h
downward-low (inf true) h = tt
downward-low (inf false) h = absurd h
downward-low (fin true m e) h = signed→le true (m * up e * down (pos 0)) false (0 * up (pos 0) * down e) tt
downward-low (fin false m e) h = absurd h

none-low : (z : Float) (a c : ℕ) → a ≡ 0 → Rounds binary32 z a c → T (le z zero_f)
none-low z a c e r = held-above binary32 zero_f z a c zero_held r (le_trans (le_of_eq (ap (λ (n : ℕ). n * den zero_f) e ∙ zero-mul (den zero_f))) zero-le)

not-above : (n u : ℕ) → n ≡ 0 → 0 < n * u → ⊥
not-above n u e o = no (n * u) o (ap (λ (k : ℕ). k * u) e ∙ zero-mul u)
  where
    no : (k : ℕ) → 0 < k → k ≡ 0 → ⊥
    no k h e = omega arith

-- what is at most 0, divided by what is above 0, is at most 0
pub div-low : (x y : Float) → T (le x zero_f) → T (nonneg y) → 0 < num y → T (le (div binary32 x y) zero_f)
unfolding div zero_f of_bits le lt eq
div-low nan y h q o = absurd h
div-low (inf false) y h q o = absurd h
div-low (inf true) nan h q o = absurd q
div-low (inf true) (inf t) h q o = absurd q
div-low (inf true) (fin true n d) h q o = absurd (not-above n (up d) (eqb→eq n 0 q) o)
div-low (inf true) (fin false n d) h q o = tt
div-low (fin true m e) nan h q o = absurd q
div-low (fin true m e) (inf t) h q o = absurd q
div-low (fin true m e) (fin true n d) h q o = absurd (not-above n (up d) (eqb→eq n 0 q) o)
div-low (fin true m e) (fin false n d) h q o = go (eqb n 0) (eqb→eq n 0)
  where
    go : (b : Bool) → (T b → n ≡ 0) → T (le (cond b (cond (eqb m 0) nan (inf true)) (round binary32 true (m * up e * down d) (n * up d * down e))) zero_f)
    go true k = absurd (not-above n (up d) (k tt) o)
    go false k = downward-low (round binary32 true (m * up e * down d) (n * up d * down e)) (round-downward (m * up e * down d) (n * up d * down e))
div-low (fin false m e) y h q o =
    let x = fin false m e in
    le-le-trans (div binary32 x y) (div binary32 zero_f y) zero_f (div_mono binary32 x zero_f y y tt zero_held.nn q q o o h (le-self y (nonneg-real y q)))
    (none-low (div binary32 zero_f y) (num zero_f * den y) (num y * den zero_f) (ap (λ (n : ℕ). n * den y) zero-num ∙ zero-mul (den y)) (div-rounds binary32 zero_f y zero_held.nn q o))

-- the second is taken away: rounded where it is no larger, at most 0 where it is no smaller
pub record Taken (z : Float) (a b c : ℕ) : Type 0 where
  pub rounds : b ≤ a → Rounds binary32 z (a - b) c
  pub low : a ≤ b → T (le z zero_f)

sum-taken : (s t : Bool) (a b c : ℕ) → 0 < c → (s ≡ true → a ≡ 0) → (t ≡ false → b ≡ 0) → Taken (sum binary32 s a t b c) a b c
unfolding sum
sum-taken false true a b c C p q = record { rounds = λ h. more (ltb a b) (ltb→lt a b) h; low = λ h. less (ltb a b) (nltb→le a b) h }
  where
    clash : (a b : ℕ) → a < b → b ≤ a → ⊥
    clash a b h k = omega arith

    gone : (a b : ℕ) → a ≤ b → a - b ≡ 0
    gone a b h = omega arith

    more : (u : Bool) → (T u → a < b) → b ≤ a → Rounds binary32 (cond u (round binary32 true (b - a) c) (round binary32 false (a - b) c)) (a - b) c
    more true k h = absurd (clash a b (k tt) h)
    more false k h = record { sign = false; same = refl; only_zero = no_sign; above = C }

    less : (u : Bool) → (T (not u) → b ≤ a) → a ≤ b → T (le (cond u (round binary32 true (b - a) c) (round binary32 false (a - b) c)) zero_f)
    less true k h = downward-low (round binary32 true (b - a) c) (round-downward (b - a) c)
    less false k h = none-low (round binary32 false (a - b) c) (a - b) c (gone a b h) (record { sign = false; same = refl; only_zero = no_sign; above = C })
sum-taken true true a b c C p q = record {
  rounds = λ h. record { sign = true; same = ap (λ (n : ℕ). round binary32 true n c) (same a b (p refl) h); only_zero = λ e. gone a b (p refl); above = C };
  low = λ h. downward-low (round binary32 true (a + b) c) (round-downward (a + b) c);
}
  where
    same : (a b : ℕ) → a ≡ 0 → b ≤ a → a + b ≡ a - b
    same a b e h = omega arith

    gone : (a b : ℕ) → a ≡ 0 → a - b ≡ 0
    gone a b e = omega arith
sum-taken false false a b c C p q = record {
  rounds = λ h. record { sign = false; same = ap (λ (n : ℕ). round binary32 false n c) (same a b (q refl)); only_zero = no_sign; above = C };
  low = λ h. none-low (round binary32 false (a + b) c) (a + b) c (gone a b (q refl) h) (record { sign = false; same = refl; only_zero = no_sign; above = C });
}
  where
    same : (a b : ℕ) → b ≡ 0 → a + b ≡ a - b
    same a b e = omega arith

    gone : (a b : ℕ) → b ≡ 0 → a ≤ b → a + b ≡ 0
    gone a b e h = omega arith
sum-taken true false a b c C p q =
    let r = sum-rounds true false a b c C p (λ e. q refl) in
    record {
      rounds = λ h. subst (λ (n : ℕ). Rounds binary32 (sum binary32 true a false b c) n c) (same a b (p refl) (q refl)) r;
      low = λ h. none-low (sum binary32 true a false b c) (a + b) c (gone a b (p refl) (q refl)) r;
    }
  where
    same : (a b : ℕ) → a ≡ 0 → b ≡ 0 → a + b ≡ a - b
    same a b e h = omega arith

    gone : (a b : ℕ) → a ≡ 0 → b ≡ 0 → a + b ≡ 0
    gone a b e h = omega arith

-- ---- the fused operation on what is not below zero
product-sign : (s t : Bool) (m n u v w : ℕ) → (s ≡ true → T (eqb m 0)) → (t ≡ true → T (eqb n 0)) → unlike s t ≡ true → m * u * (n * v) * w ≡ 0
product-sign false false m n u v w p q h = no_sign h
product-sign true true m n u v w p q h = no_sign h
product-sign true false m n u v w p q h = ap (λ (k : ℕ). k * w) (zero-size m u (n * v) (p refl)) ∙ zero-mul w
product-sign false true m n u v w p q h = ap (λ (k : ℕ). k * w) (mul_comm (m * u) (n * v) ∙ zero-size n v (m * u) (q refl)) ∙ zero-mul w

signed-zero : (s : Bool) (m : ℕ) (e : ℤ) → T (nonneg (fin s m e)) → s ≡ true → T (eqb m 0)
signed-zero true m e h q = h
signed-zero false m e h q = no_sign q

pub fused-rounds : (x y z : Float) → T (nonneg x) → T (nonneg y) → T (nonneg z) → Rounds binary32 (fused_of x y z) (num x * num y * den z + num z * (den x * den y)) (den x * den y * den z)
unfolding fused_of
fused-rounds nan y z p q r = absurd p
fused-rounds (inf s) y z p q r = absurd p
fused-rounds (fin s m e) nan z p q r = absurd q
fused-rounds (fin s m e) (inf t) z p q r = absurd q
fused-rounds (fin s m e) (fin t n d) nan p q r = absurd r
fused-rounds (fin s m e) (fin t n d) (inf u) p q r = absurd r
fused-rounds (fin s m e) (fin t n d) (fin u o g) p q r =
    sum-rounds (unlike s t) u (m * up e * (n * up d) * down g) (o * up g * (down e * down d)) (down e * down d * down g) (mul-pos (mul-pos (down_pos e) (down_pos d)) (down_pos g))
    (product-sign s t m n (up e) (up d) (down g) (signed-zero s m e p) (signed-zero t n d q)) (λ h. zero-size o (up g) (down e * down d) (signed-zero u o g r h))

pub fused-taken : (x y z : Float) → T (nonneg x) → T (nonneg y) → T (nonneg z) → Taken (fused_of x y (neg z)) (num x * num y * den z) (num z * (den x * den y)) (den x * den y * den z)
unfolding fused_of neg
fused-taken nan y z p q r = absurd p
fused-taken (inf s) y z p q r = absurd p
fused-taken (fin s m e) nan z p q r = absurd q
fused-taken (fin s m e) (inf t) z p q r = absurd q
fused-taken (fin s m e) (fin t n d) nan p q r = absurd r
fused-taken (fin s m e) (fin t n d) (inf u) p q r = absurd r
fused-taken (fin s m e) (fin t n d) (fin u o g) p q r =
    sum-taken (unlike s t) (not u) (m * up e * (n * up d) * down g) (o * up g * (down e * down d)) (down e * down d * down g) (mul-pos (mul-pos (down_pos e) (down_pos d)) (down_pos g))
    (product-sign s t m n (up e) (up d) (down g) (signed-zero s m e p) (signed-zero t n d q)) (λ h. zero-size o (up g) (down e * down d) (signed-zero u o g r (turned u h)))
  where
    turned : (u : Bool) → not u ≡ false → u ≡ true
    turned true h = refl
    turned false h = no_sign (sym h)

-- ---- it keeps the order
products : (x w y : Float) → T (nonneg x) → T (nonneg w) → T (nonneg y) → T (le x w) → num x * num y * (den w * den y) ≤ num w * num y * (den x * den y)
products x w y p q r h =
    le_trans (le_of_eq (mul-mul-mul_comm (num x) (num y) (den w) (den y))) (le_trans (mul-le-mul_right (num y * den y) (le→cross x w p q h)) (le_of_eq (mul-mul-mul_comm (num w) (den x) (num y) (den y))))

pub fused-mono : (x w y z v : Float) → T (nonneg x) → T (nonneg w) → T (nonneg y) → T (nonneg z) → T (nonneg v) → T (le x w) → T (le z v) → T (le (fused_of x y z) (fused_of w y v))
fused-mono x w y z v p q r m n h k =
    rounds-mono binary32 (fused_of x y z) (fused_of w y v) (num x * num y * den z + num z * (den x * den y)) (den x * den y * den z) (num w * num y * den v + num v * (den w * den y)) (den w * den y * den v)
    (fused-rounds x y z p r m) (fused-rounds w y v q r n)
    (cross-add (num x * num y) (den x * den y) (num w * num y) (den w * den y) (num z) (den z) (num v) (den v) (products x w y p q r h) (le→cross z v m n k))

-- ---- x * y - c: at most 0, or a rounded fraction; and it keeps the order of x

-- the factors may be exchanged
pub fused-swap : (x y z : Float) → T (nonneg x) → T (nonneg y) → fused_of x y z ≡ fused_of y x z
unfolding fused_of
fused-swap nan y z p q = absurd p
fused-swap (inf s) y z p q = absurd p
fused-swap (fin s m e) nan z p q = absurd q
fused-swap (fin s m e) (inf t) z p q = absurd q
fused-swap (fin s m e) (fin t n d) nan p q = refl
fused-swap (fin s m e) (fin t n d) (inf u) p q = refl
fused-swap (fin s m e) (fin t n d) (fin u o g) p q = rw (unlike-swap s t, mul_comm (m * up e) (n * up d), mul_comm (down e) (down d)) refl
  where
    unlike-swap : (s t : Bool) → unlike s t ≡ unlike t s
    unlike-swap false false = refl
    unlike-swap false true = refl
    unlike-swap true false = refl
    unlike-swap true true = refl

-- the exact difference of x * y and c is `over` / `scale`
abbrev pub over : Float → Float → Float → ℕ
over x y c = num x * num y * den c - num c * (den x * den y)

abbrev pub scale : Float → Float → Float → ℕ
scale x y c = den x * den y * den c

pub fused-sorted : (x y c : Float) → T (nonneg x) → T (nonneg y) → T (nonneg c) → T (le (fused_of x y (neg c)) zero_f) ⊎ Rounds binary32 (fused_of x y (neg c)) (over x y c) (scale x y c)
fused-sorted x y c p q r =
    let a = num x * num y * den c in
    let b = num c * (den x * den y) in
    elim (decide (leb a b)) [
      | inl k ↦ inl ((fused-taken x y c p q r).low (leb→le a b k))
      | inr k ↦ inr ((fused-taken x y c p q r).rounds (le_of_lt (nleb→lt a b k)))
    ]

pub fused-real : (x y c : Float) → T (nonneg x) → T (nonneg y) → T (nonneg c) → T (real (fused_of x y (neg c)))
fused-real x y c p q r = elim (fused-sorted x y c p q r) [
  | inl k ↦ le-real-l (fused_of x y (neg c)) zero_f k
  | inr k ↦ rounds-real binary32 (fused_of x y (neg c)) (over x y c) (scale x y c) k
]

-- two that are rounded fractions, in order
pub record Risen (t u y c : Float) : Type 0 where
  pub first : Rounds binary32 (fused_of t y (neg c)) (over t y c) (scale t y c)
  pub second : Rounds binary32 (fused_of u y (neg c)) (over u y c) (scale u y c)
  pub order : T (le (fused_of t y (neg c)) (fused_of u y (neg c)))

module _ (t u y c : Float) (p : T (nonneg t)) (q : T (nonneg u)) (r : T (nonneg y)) (s : T (nonneg c)) (h : T (le t u)) where
  abbrev A : Float → ℕ
  A x = num x * num y * den c

  abbrev B : Float → ℕ
  B x = num c * (den x * den y)

  abbrev C : Float → ℕ
  C x = scale x y c

  C-above : (x : Float) → 0 < C x
  C-above x = mul-pos (mul-pos (den_pos x) (den_pos y)) (den_pos c)

  -- what is taken away is one fraction
  offsets : B t * C u ≡ B u * C t
  offsets = simp (mul_assoc, mul_comm, mul_left_comm)

  grown : A t * C u ≤ A u * C t
  grown = simp (mul_assoc, mul_comm, mul_left_comm) (simp (mul_assoc, mul_comm, mul_left_comm) at (mul-le-mul_right (num y * den c * (den y * den c)) (le→cross t u p q h)))

  past : B t ≤ A t → B u ≤ A u
  past k = le_of_mul-le-mul_right (le_trans (le_of_eq (sym offsets)) (le_trans (mul-le-mul_right (C u) k) grown)) (C-above t)

  differences : (A t - B t) * C u ≤ (A u - B u) * C t
  differences =
      le_trans (le_of_eq (mul_comm (A t - B t) (C u) ∙ mul-sub (C u) (A t) (B t)))
      (le_trans (less (C u * A t) (C u * B t) (C t * A u) (C t * B u) (le_trans (le_of_eq (mul_comm (C u) (A t))) (le_trans grown (le_of_eq (mul_comm (A u) (C t))))) (mul_comm (C u) (B t) ∙ offsets ∙ mul_comm (B u) (C t)))
      (le_of_eq (sym (mul_comm (A u - B u) (C t) ∙ mul-sub (C t) (A u) (B u)))))
    where
      less : (w x y z : ℕ) → w ≤ y → x ≡ z → w - x ≤ y - z
      less w x y z h e = omega arith

  pub fused-rise : T (le (fused_of t y (neg c)) zero_f) ⊎ Risen t u y c
  fused-rise = elim (decide (leb (A t) (B t))) [
    | inl k ↦ inl ((fused-taken t y c p r s).low (leb→le (A t) (B t) k))
    | inr k ↦
        let first = (fused-taken t y c p r s).rounds (le_of_lt (nleb→lt (A t) (B t) k)) in
        let second = (fused-taken u y c q r s).rounds (past (le_of_lt (nleb→lt (A t) (B t) k))) in
        inr (record { first = first; second = second; order = rounds-mono binary32 (fused_of t y (neg c)) (fused_of u y (neg c)) (A t - B t) (C t) (A u - B u) (C u) first second differences })
  ]
