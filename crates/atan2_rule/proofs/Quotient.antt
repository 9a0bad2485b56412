-- The quotient of y by a positive x, rounded to an f32, where it is at most 2 ^ -13 and a little: it keeps y's sign, subnormal or not, and is off by at most 2 ^ -36. Assumes nothing.
use mathlib.Core.Path.{◌≡◌, refl, sym, ap, ◌∙◌, subst}
use Prim.Native.Nat.{ℕ, suc, ◌+◌, ◌-◌, ◌*◌, ◌/◌, ◌%◌, ◌^◌, ◌≤◌, ◌<◌, compare}
use native.Mathlib.Nat.{mul_comm, mul_assoc, mul-add, zero-mul, add-le-add, mul-pos, mul-le-mul_left, mul-le-mul_right, mul-lt-mul_of_pos_left, div-mul-le_self, div-lt_iff_lt-mul}
use native.Mathlib.Nat.{le_refl, le_trans, le_of_eq, le_of_lt, lt_of_lt_of_le, lt_of_le_of_lt, lt_of_not-le, not-le_of_lt, pos_of_ne-zero, lt-div-mul-add}
use native.Mathlib.Omega.{arith}
use mathlib.Core.Bool.{Bool, true, false, cond}
use lib.Dec.{eqb, lit≤, lit<}
use lib.Pow.{pow_pos, pow_mono}
use lib.Ieee.{Float, nan, inf, fin, up, down, size, binary32, unlike, units, round, div}
use lib.Ieee.Digits.{size-le}
use lib.Ieee.Fits.{up_pos, down_pos, round_is, nearest-le}
use lib.Ieee.Nearest.{closest, nearest-ge}
use lib.Ieee.Exact.{HasValue, units_val}
use lib.Ieee.Scale.{round_same}
use borrow.Author.Tests.{ne_eqb}
use Rattle.trig_rule.specs.Rule.{Is}

-- ---- a whole number next to a / b
closest-above : (a b : ℕ) → 0 < b → closest a b * b ≤ a + b
closest-above a b pos =
    le_trans (mul-le-mul_right b (nearest-le (a / b) (compare (a % b * 2) b)))
    (le_trans (le_of_eq (one_more (a / b) b)) (add-le-add (div-mul-le_self a b) (le_refl b)))
  where
    one_more : (q b : ℕ) → suc q * b ≡ q * b + b
    one_more q b = omega arith

closest-below : (a b : ℕ) → 0 < b → a ≤ closest a b * b + b
closest-below a b pos = le_trans (le_of_lt (lt-div-mul-add pos)) (add-le-add (mul-le-mul_right b (nearest-ge (a / b) (compare (a % b * 2) b))) (le_refl b))

-- ---- Y / X rounded, in units of 2 ^ -149
pub record Rounded (s : Bool) (Y X : ℕ) (x : Float) : Type 0 where
  pub units : ℕ
  pub value : Is x s units
  pub small : units < 2 ^ 137
  pub above : 2 ^ 149 * Y ≤ units * X + 2 ^ 127 * X
  pub below : units * X ≤ 2 ^ 149 * Y + 2 ^ 127 * X

module _ (s : Bool) (Y X : ℕ) (pos : 0 < X) (flat : Y * 2 ^ 29 ≤ X * 65538) where
  abbrev n : ℕ
  n = Y * 2 ^ 149

  n-le : Y * 2 ^ 149 ≤ X * (65538 * 2 ^ 120)
  n-le = le_trans (le_of_eq (sym (mul_assoc Y (2 ^ 29) (2 ^ 120)))) (le_trans (mul-le-mul_right (2 ^ 120) flat) (le_of_eq (mul_assoc X 65538 (2 ^ 120))))

  abbrev k : ℕ
  k = size (Y * 2 ^ 149 / X) - 24

  k-le : size (Y * 2 ^ 149 / X) - 24 ≤ 113
  k-le =
      let a : Y * 2 ^ 149 / X < 2 ^ 137 = (div-lt_iff_lt-mul pos).1 (lt_of_le_of_lt n-le (lt_of_lt_of_le (mul-lt-mul_of_pos_left (lit< tt) pos) (le_of_eq (mul_comm X (2 ^ 137))))) in
      let b : size (Y * 2 ^ 149 / X) ≤ 137 = size-le (Y * 2 ^ 149 / X) 137 a in
      omega arith

  abbrev q : ℕ
  q = closest (Y * 2 ^ 149) (X * 2 ^ (size (Y * 2 ^ 149 / X) - 24))

  unit-pos : 0 < X * 2 ^ (size (Y * 2 ^ 149 / X) - 24)
  unit-pos = mul-pos pos (pow_pos (size (Y * 2 ^ 149 / X) - 24))

  moved : q * 2 ^ k * X ≡ q * (X * 2 ^ k)
  moved = mul_assoc q (2 ^ k) X ∙ ap (λ (x : ℕ). q * x) (mul_comm (2 ^ k) X)

  slack : X * 2 ^ k ≤ 2 ^ 113 * X
  slack = le_trans (mul-le-mul_left X (pow_mono k-le)) (le_of_eq (mul_comm X (2 ^ 113)))

  pub units-above : q * 2 ^ k * X ≤ Y * 2 ^ 149 + 2 ^ 113 * X
  units-above = le_trans (le_of_eq moved) (le_trans (closest-above (Y * 2 ^ 149) (X * 2 ^ k) unit-pos) (add-le-add (le_refl (Y * 2 ^ 149)) slack))

  pub units-below : Y * 2 ^ 149 ≤ q * 2 ^ k * X + 2 ^ 113 * X
  units-below = le_trans (closest-below (Y * 2 ^ 149) (X * 2 ^ k) unit-pos) (add-le-add (le_of_eq (sym moved)) slack)

  units_small : q * 2 ^ k < 2 ^ 137
  units_small =
      lt_of_not-le (λ (f : 2 ^ 137 ≤ q * 2 ^ k).
      not-le_of_lt (lt_of_le_of_lt (le_trans units-above (le_trans (add-le-add n-le (le_of_eq (mul_comm (2 ^ 113) X))) (le_of_eq (sym (mul-add X (65538 * 2 ^ 120) (2 ^ 113)))))) (mul-lt-mul_of_pos_left {n = 2 ^ 137} (lit< tt) pos))
      (le_trans (le_of_eq (mul_comm X (2 ^ 137))) (mul-le-mul_right X f)))

  weaker : (a b c : ℕ) → a ≤ b + 2 ^ 113 * c → a ≤ b + 2 ^ 127 * c
  weaker a b c h = le_trans h (add-le-add (le_refl b) (mul-le-mul_right c (lit≤ tt)))

  round-value : HasValue (round binary32 s Y X) s (q * 2 ^ k) (2 ^ 149)
  round-value = subst (λ (x : Float). HasValue x s (q * 2 ^ k) (2 ^ 149)) (sym (round_is binary32 s Y X)) (units_val binary32 s q k (lt_of_lt_of_le units_small (lit≤ tt)))

  pub rounded : Rounded s Y X (round binary32 s Y X)
  rounded = record {
    units = q * 2 ^ k;
    value = round-value;
    small = units_small;
    above = weaker (2 ^ 149 * Y) (q * 2 ^ k * X) X (le_trans (le_of_eq (mul_comm (2 ^ 149) Y)) units-below);
    below = weaker (q * 2 ^ k * X) (2 ^ 149 * Y) X (le_trans units-above (add-le-add (le_of_eq (mul_comm Y (2 ^ 149))) (le_refl (2 ^ 113 * X))));
  }

-- ---- the division itself
plus-right : (s : Bool) → unlike s false ≡ s
plus-right false = refl
plus-right true = refl

div_is : (y x : Float) (s : Bool) (Y X : ℕ) → Is y s Y → Is x false X → 0 < X → div binary32 y x ≡ round binary32 s Y X
unfolding div
div_is nan x s Y X hy hx pos = absurd hy
div_is (inf t) x s Y X hy hx pos = absurd hy
div_is (fin t m e) nan s Y X hy hx pos = absurd hx
div_is (fin t m e) (inf r) s Y X hy hx pos = absurd hx
div_is (fin t m e) (fin r n d) s Y X hy hx pos =
    ap (λ (b : Bool). cond b (cond (eqb m 0) nan (inf (unlike t r))) (round binary32 (unlike t r) (m * up e * down d) (n * up d * down e))) (ne_eqb n 0 some)
    ∙ ap (λ (b : Bool). round binary32 b (m * up e * down d) (n * up d * down e)) (ap (λ (b : Bool). unlike t b) hx.0 ∙ plus-right t ∙ hy.0)
    ∙ round_same binary32 s (m * up e * down d) (n * up d * down e) Y X (mul-pos (mul-pos n_pos (up_pos d)) (down_pos e)) pos same
  where
    some : n ≡ 0 → ⊥
    some z = no_less (X * down d) (sym hx.1 ∙ ap (λ (a : ℕ). a * up d * 2 ^ 149) z ∙ ap (λ (a : ℕ). a * 2 ^ 149) (zero-mul (up d)) ∙ zero-mul (2 ^ 149)) (mul-pos pos (down_pos d))
      where
        no_less : (a : ℕ) → a ≡ 0 → 0 < a → ⊥
        no_less a h g = omega arith

    n_pos : 0 < n
    n_pos = pos_of_ne-zero some

    same : m * up e * down d * X ≡ Y * (n * up d * down e)
    same =
        mul_assoc (m * up e) (down d) X ∙ ap (λ (a : ℕ). m * up e * a) (mul_comm (down d) X ∙ sym hx.1)
        ∙ shuffle (m * up e) (n * up d) (2 ^ 149) ∙ ap (λ (a : ℕ). a * (n * up d)) hy.1 ∙ last Y (down e) (n * up d)
      where
        shuffle : (a b c : ℕ) → a * (b * c) ≡ a * c * b
        shuffle a b c = simp (mul_assoc, mul_comm)

        last : (a b c : ℕ) → a * b * c ≡ a * (c * b)
        last a b c = simp (mul_assoc, mul_comm)

pub divided : (y x : Float) (s : Bool) (Y X : ℕ) → Is y s Y → Is x false X → 0 < X → Y * 2 ^ 29 ≤ X * 65538 → Rounded s Y X (div binary32 y x)
divided y x s Y X hy hx pos flat = subst (λ (z : Float). Rounded s Y X z) (sym (div_is y x s Y X hy hx pos)) (rounded s Y X pos flat)
