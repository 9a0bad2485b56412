-- From the two sides to the answer: where each side of the steps is near its side of the sum, and the answer is near the difference of the steps' sides, the answer keeps the rule. Assumes nothing.
use mathlib.Core.Path.{◌≡◌, sym, ap, ◌∙◌}
use Prim.Native.Nat.{ℕ, ◌+◌, ◌*◌, ◌^◌, ◌≤◌}
use native.Mathlib.Nat.{le_trans, le_of_eq, mul_assoc, mul-add, add-mul, mul-le-mul_left, mul-le-mul_right}
use native.Mathlib.Omega.{arith}
use Rattle.trig_rule.specs.Rule.{tolerance, Within}

-- ---- a and t lie under A and T by e at most, and g is a - t: then g is within e of A - T
pub apart_above : (g a t e A T : ℕ) → g + t ≡ a → a ≤ A → T ≤ t + e → g + T ≤ A + e
apart_above g a t e A T s h k = omega arith

pub apart_below : (g a t e A T : ℕ) → g + t ≡ a → A ≤ a + e → t ≤ T → A ≤ g + T + e
apart_below g a t e A T s h k = omega arith

-- ---- m is within c of L * g, and g / u is within e / u of (a - t) / w, where L * u is 2 ^ 149. Numbers of more than 38 digits stand for themselves in variables
sum-above : (mw gw lt la s c b : ℕ) → mw ≤ gw + c → gw + lt ≤ la + s → s + c ≤ b → mw + lt ≤ la + b
sum-above mw gw lt la s c b h k l = omega arith

sum_below : (mw gw lt la s c b : ℕ) → gw ≤ mw + c → la ≤ gw + lt + s → s + c ≤ b → la ≤ mw + lt + b
sum_below mw gw lt la s c b h k l = omega arith

module _ (m L u g e c a t w : ℕ) (unit : L * u ≡ 2 ^ 149) (ga : g * w + u * t ≤ u * a + e * w) (gb : u * a ≤ g * w + u * t + e * w) (ma : m ≤ L * g + c) (mb : L * g ≤ m + c) (room : L * e + c ≤ tolerance) where
  side : (x : ℕ) → L * (u * x) ≡ 2 ^ 149 * x
  side x = sym (mul_assoc L u x) ∙ ap (λ (n : ℕ). n * x) unit

  left : L * (g * w + u * t) ≡ L * g * w + 2 ^ 149 * t
  left = mul-add L (g * w) (u * t) ∙ ap (λ (n : ℕ). n + L * (u * t)) (sym (mul_assoc L g w)) ∙ ap (λ (n : ℕ). L * g * w + n) (side t)

  right : (x : ℕ) → L * (x + e * w) ≡ L * x + L * e * w
  right x = mul-add L x (e * w) ∙ ap (λ (n : ℕ). L * x + n) (sym (mul_assoc L e w))

  fits : L * e * w + c * w ≤ tolerance * w
  fits = le_trans (le_of_eq (sym (add-mul (L * e) c w))) (mul-le-mul_right w room)

  pub within : Within m a t w
  within =
      record {
        above = sum-above (m * w) (L * g * w) (2 ^ 149 * t) (2 ^ 149 * a) (L * e * w) (c * w) (tolerance * w)
            (le_trans (mul-le-mul_right w ma) (le_of_eq (add-mul (L * g) c w)))
            (le_trans (le_of_eq (sym left)) (le_trans (mul-le-mul_left L ga) (le_of_eq (right (u * a) ∙ ap (λ (n : ℕ). n + L * e * w) (side a))))) fits;
        below = sum_below (m * w) (L * g * w) (2 ^ 149 * t) (2 ^ 149 * a) (L * e * w) (c * w) (tolerance * w)
            (le_trans (mul-le-mul_right w mb) (le_of_eq (add-mul m c w)))
            (le_trans (le_of_eq (sym (side a))) (le_trans (mul-le-mul_left L gb) (le_of_eq (right (g * w + u * t) ∙ ap (λ (n : ℕ). n + L * e * w) left)))) fits;
      }
