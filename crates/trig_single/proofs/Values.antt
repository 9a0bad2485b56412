-- Floats by sign and size: the same size by another fraction, and a difference and a product are the rounded difference and product of the values. Assumes nothing.
use mathlib.Core.Path.{◌≡◌, refl, sym, ap, ◌∙◌, subst}
use Prim.Native.Nat.{ℕ, zero, suc, ◌+◌, ◌-◌, ◌*◌, ◌^◌, ◌≤◌, ◌<◌}
use native.Mathlib.Nat.{mul-pos, mul_comm, mul_assoc, mul_right_comm, mul-mul-mul_comm, mul-sub, mul-le-mul_right, le_of_mul-le-mul_right, not-le_of_lt}
use mathlib.Core.Bool.{Bool, true, false, cond, not, true≢false}
use borrow.Author.Tests.{ltb-true, ltb-false}
use lib.Dec.{T, ltb}
use lib.Ieee.{Float, nan, inf, fin, Format, up, down, prec, emax, low, round, units, odd, is_nan, sub, add, neg, sum, mul, unlike}
use lib.Ieee.Exact.{HasValue}
use lib.Ieee.Fits.{down_pos}
use lib.Ieee.Scale.{round_same}

-- ---- the same size by another fraction
pub value-scaled : (x : Float) (s : Bool) (a c u : ℕ) → HasValue x s a c → HasValue x s (a * u) (c * u)
value-scaled nan s a c u v = absurd v
value-scaled (inf t) s a c u v = absurd v
value-scaled (fin t m e) s a c u v = (v.0, sym (mul_assoc (m * up e) c u) ∙ ap (λ (k : ℕ). k * u) v.1 ∙ mul_right_comm a (down e) u)

-- ---- a difference
module _ (f : Format) (A B C a b c : ℕ) (P : 0 < C) (p : 0 < c) (ea : A * c ≡ a * C) (eb : B * c ≡ b * C) where
  less : (X Y x y : ℕ) → X * c ≡ x * C → Y * c ≡ y * C → (X - Y) * c ≡ (x - y) * C
  less X Y x y e g =
      mul_comm (X - Y) c ∙ mul-sub c X Y ∙ ap (λ (k : ℕ). k - c * Y) (mul_comm c X ∙ e ∙ mul_comm x C)
      ∙ ap (λ (k : ℕ). C * x - k) (mul_comm c Y ∙ g ∙ mul_comm y C) ∙ sym (mul-sub C x y) ∙ mul_comm C (x - y)

  same_sum : cond (ltb A B) (round f true (B - A) C) (round f false (A - B) C) ≡ cond (ltb a b) (round f true (b - a) c) (round f false (a - b) c)
  same_sum = go (ltb A B) refl (ltb a b) refl
    where
      go : (h : Bool) → ltb A B ≡ h → (k : Bool) → ltb a b ≡ k → cond h (round f true (B - A) C) (round f false (A - B) C) ≡ cond k (round f true (b - a) c) (round f false (a - b) c)
      go true e true g = round_same f true (B - A) C (b - a) c P p (less B A b a eb ea)
      go false e false g = round_same f false (A - B) C (a - b) c P p (less A B a b ea eb)
      go true e false g =
          absurd (not-le_of_lt (ltb-true A B e)
          (le_of_mul-le-mul_right (subst (λ (k : ℕ). k ≤ A * c) (sym eb) (subst (λ (k : ℕ). b * C ≤ k) (sym ea) (mul-le-mul_right C (ltb-false a b g)))) p))
      go false e true g =
          absurd (not-le_of_lt (ltb-true a b g)
          (le_of_mul-le-mul_right (subst (λ (k : ℕ). k ≤ a * C) eb (subst (λ (k : ℕ). B * c ≤ k) ea (mul-le-mul_right c (ltb-false A B e)))) P))

pub sub-values :
    (f : Format) (x y : Float) (a b c : ℕ) → 0 < c → HasValue x false a c → HasValue y false b c
    → sub f x y ≡ cond (ltb a b) (round f true (b - a) c) (round f false (a - b) c)
unfolding sub add neg sum
sub-values f nan y a b c p v w = absurd v
sub-values f (inf u) y a b c p v w = absurd v
sub-values f (fin true m e) y a b c p v w = absurd (true≢false v.0)
sub-values f (fin false m e) nan a b c p v w = absurd w
sub-values f (fin false m e) (inf r) a b c p v w = absurd w
sub-values f (fin false m e) (fin true n g) a b c p v w = absurd (true≢false w.0)
sub-values f (fin false m e) (fin false n g) a b c p v w =
    same_sum f (m * up e * down g) (n * up g * down e) (down e * down g) a b c (mul-pos (down_pos e) (down_pos g)) p
    (mul_right_comm (m * up e) (down g) c ∙ ap (λ (k : ℕ). k * down g) v.1 ∙ mul_assoc a (down e) (down g))
    (mul_right_comm (n * up g) (down e) c ∙ ap (λ (k : ℕ). k * down e) w.1 ∙ mul_assoc b (down g) (down e) ∙ ap (λ (k : ℕ). b * k) (mul_comm (down g) (down e)))

-- ---- what is rounded is a number
odd_number : (d : ℕ) (s : Bool) (q k l : ℕ) → T (not (is_nan (odd d s q k l)))
unfolding odd is_nan
odd_number d s zero k l = tt
odd_number d s (suc q) k l = tt

units_number : (f : Format) (s : Bool) (q k : ℕ) → T (not (is_nan (units f s q k)))
unfolding units is_nan
units_number f s q k = go (ltb (q * 2 ^ k) (2 ^ (low f + suc (emax f))))
  where
    go : (b : Bool) → T (not (is_nan (cond b (odd (suc (prec f)) s q k (low f)) (inf s))))
    go true = odd_number (suc (prec f)) s q k (low f)
    go false = tt

pub round_number : (f : Format) (s : Bool) (n d : ℕ) → T (not (is_nan (round f s n d)))
unfolding round
round_number f s n d = units_number f s _ _

-- ---- a product
pub mul-values : (f : Format) (x y : Float) (s t : Bool) (a c b d : ℕ) → 0 < c → 0 < d → HasValue x s a c → HasValue y t b d → mul f x y ≡ round f (unlike s t) (a * b) (c * d)
unfolding mul
mul-values f nan y s t a c b d C D v w = absurd v
mul-values f (inf u) y s t a c b d C D v w = absurd v
mul-values f (fin u m e) nan s t a c b d C D v w = absurd w
mul-values f (fin u m e) (inf r) s t a c b d C D v w = absurd w
mul-values f (fin u m e) (fin r n g) s t a c b d C D v w =
    ap (λ (i : Bool). round f (unlike i r) (m * up e * (n * up g)) (down e * down g)) v.0
    ∙ ap (λ (i : Bool). round f (unlike s i) (m * up e * (n * up g)) (down e * down g)) w.0
    ∙ round_same f (unlike s t) (m * up e * (n * up g)) (down e * down g) (a * b) (c * d) (mul-pos (down_pos e) (down_pos g)) (mul-pos C D)
    (mul-mul-mul_comm (m * up e) (n * up g) c d
    ∙ ap (λ (k : ℕ). k * (n * up g * d)) v.1
    ∙ ap (λ (k : ℕ). a * down e * k) w.1
    ∙ mul-mul-mul_comm a (down e) b (down g))
