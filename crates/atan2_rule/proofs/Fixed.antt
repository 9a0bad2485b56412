-- The angle that the bits b stand for, in units of 2 ^ -56: from one f32 to the next it grows by the unit of its binade, at most 2 ^ -22 below PI. Assumes nothing.
use mathlib.Core.Path.{◌≡◌, sym, ap, ◌∙◌, subst}
use Prim.Native.Nat.{ℕ, zero, suc, ◌+◌, ◌-◌, ◌*◌, ◌/◌, ◌%◌, ◌^◌, ◌≤◌, ◌<◌}
use native.Mathlib.Nat.{le_refl, le_trans, le_of_eq, le_dest, le-add_right, add-zero, add-le-add, add-mul, one-mul, pow-succ'}
use native.Mathlib.Omega.{arith}
use native.Mathlib.Decide.{ℕ_discrete}
use lib.Dec.{lit≤}
use lib.Pow.{pow_mono}
use Rattle.floats.specs.Patterns.{hidden}
use Rattle.trig_rule.specs.Steps.{half, fixed_of}
use Rattle.atan2_rule.specs.Steps.{least, most}

-- the unit of the binade of b
abbrev unit : ℕ → ℕ
unit b = 2 ^ (b / hidden - 94)

-- below the binade's last place the digits go up by one; at it the field does
within : (m e n f : ℕ) → n ≡ m + 1 → f ≡ e → n * 2 ^ f ≡ m * 2 ^ e + 2 ^ e
within m e n f a b = ap (λ (k : ℕ). n * 2 ^ k) b ∙ ap (λ (k : ℕ). k * 2 ^ e) a ∙ add-mul m 1 (2 ^ e) ∙ ap (λ (k : ℕ). m * 2 ^ e + k) (one-mul (2 ^ e))

across : (m e n f : ℕ) → m ≡ 16777215 → n ≡ hidden → f ≡ suc e → n * 2 ^ f ≡ m * 2 ^ e + 2 ^ e
across m e n f a b c =
    ap (λ (k : ℕ). n * 2 ^ k) c ∙ ap (λ (k : ℕ). k * 2 ^ suc e) b ∙ ap (λ (k : ℕ). hidden * k) (pow-succ' 2 e) ∙ twice (2 ^ e)
    ∙ ap (λ (k : ℕ). k * 2 ^ e + 2 ^ e) (sym a)
  where
    twice : (w : ℕ) → hidden * (2 * w) ≡ 16777215 * w + w
    twice w = omega arith

pub fixed-step : (b : ℕ) → 788529152 ≤ b → fixed_of (b + 1) ≡ fixed_of b + unit b
fixed-step b h = go (ℕ_discrete (b % hidden) 8388607)
  where
    go : Dec (b % hidden ≡ 8388607) → fixed_of (b + 1) ≡ fixed_of b + unit b
    go (yes e) = across (b % hidden + hidden) (b / hidden - 94) ((b + 1) % hidden + hidden) ((b + 1) / hidden - 94) (omega arith) (omega arith) (omega arith)
    go (no n) = within (b % hidden + hidden) (b / hidden - 94) ((b + 1) % hidden + hidden) ((b + 1) / hidden - 94) (omega arith) (omega arith)

fixed_on : (n b : ℕ) → 788529152 ≤ b → fixed_of b ≤ fixed_of (b + n)
fixed_on zero b h = le_of_eq (ap fixed_of (sym (add-zero b)))
fixed_on (suc n) b h =
    le_trans (fixed_on n b h)
    (le_trans (le-add_right (fixed_of (b + n)) (unit (b + n)))
    (le_of_eq (sym (fixed-step (b + n) (le_trans h (le-add_right b n))) ∙ ap fixed_of (next b n))))
  where
    next : (b n : ℕ) → b + n + 1 ≡ b + suc n
    next b n = omega arith

pub fixed-mono : (a b : ℕ) → 788529152 ≤ a → a ≤ b → fixed_of a ≤ fixed_of b
fixed-mono a b h k = let p = le_dest k in subst (λ (c : ℕ). fixed_of a ≤ fixed_of c) p.1 (fixed_on p.0 a h)

module _ (b : ℕ) (low : least ≤ b) where
  wide : 788529152 ≤ b
  wide = omega arith

  pub under-half : b ≤ most → fixed_of b ≤ half
  under-half h = le_trans (fixed-mono b most wide h) (lit≤ tt)

  pub step-up : fixed_of b ≤ fixed_of (b + 1)
  step-up = fixed-mono b (b + 1) wide (le-add_right b 1)

  pub step-near : b < most → fixed_of (b + 1) ≤ fixed_of b + 2 ^ 34
  step-near h = le_trans (le_of_eq (fixed-step b wide)) (add-le-add (le_refl (fixed_of b)) (pow_mono (few h)))
    where
      few : b < most → b / hidden - 94 ≤ 34
      few k = omega arith
