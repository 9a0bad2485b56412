-- A product of two numbers from its 64th binary digit on, by four products of halves. Assumes nothing.
use Prim.Native.Nat.{ℕ, ◌+◌, ◌*◌, ◌/◌, ◌%◌, ◌^◌, ◌≤◌, ◌<◌}
use mathlib.Core.Path.{◌≡◌, ap, sym, ◌∙◌}
use native.Mathlib.Nat.{add-mul, mul-add, mul_assoc, mul_right_comm, mul-le-mul}
use native.Mathlib.Omega.{arith}
use Rattle.decimal_product.specs.Near.{High}

-- the halves of x and p, and the four products
whole : (x1 x0 p1 p0 : ℕ) → (x1 * 4294967296 + x0) * (p1 * 4294967296 + p0) ≡ (x1 * p1 * 4294967296 + x1 * p0) * 4294967296 + (x0 * p1 * 4294967296 + x0 * p0)
whole x1 x0 p1 p0 =
    add-mul (x1 * 4294967296) x0 (p1 * 4294967296 + p0)
    ∙ ap (λ (z : ℕ). z + x0 * (p1 * 4294967296 + p0)) (mul_right_comm x1 4294967296 (p1 * 4294967296 + p0))
    ∙ ap (λ (z : ℕ). z * 4294967296 + x0 * (p1 * 4294967296 + p0)) (split x1)
    ∙ ap (λ (z : ℕ). (x1 * p1 * 4294967296 + x1 * p0) * 4294967296 + z) (split x0)
  where
    split : (y : ℕ) → y * (p1 * 4294967296 + p0) ≡ y * p1 * 4294967296 + y * p0
    split y = mul-add y (p1 * 4294967296) p0 ∙ ap (λ (z : ℕ). z + y * p0) (sym (mul_assoc y p1 4294967296))

sum_of : (a b c d : ℕ) → d ≤ 4294967295 * 4294967295 →
    ((a + b / 4294967296 + c / 4294967296) * 2 ^ 64 ≤ (a * 4294967296 + b) * 4294967296 + (c * 4294967296 + d))
    × ((a * 4294967296 + b) * 4294967296 + (c * 4294967296 + d) < (a + b / 4294967296 + c / 4294967296 + 3) * 2 ^ 64)
sum_of a b c d h = (omega arith, omega arith)

halves : (x : ℕ) → x / 4294967296 * 4294967296 + x % 4294967296 ≡ x
halves x = omega arith

low_half : (x : ℕ) → x % 4294967296 ≤ 4294967295
low_half x = omega arith

upper-half : (x : ℕ) → 2 ^ 63 ≤ x → 2 ^ 31 ≤ x / 4294967296
upper-half x h = omega arith

upper-part : (p : ℕ) → 2 ^ 59 ≤ p → 2 ^ 27 ≤ p / 4294967296
upper-part p h = omega arith

first : (a b c : ℕ) → 2 ^ 31 * 2 ^ 27 ≤ a → 2 ^ 58 ≤ a + b + c
first a b c h = omega arith

pub high_is : (x p : ℕ) → High x p (x / 4294967296 * (p / 4294967296) + x / 4294967296 * (p % 4294967296) / 4294967296 + x % 4294967296 * (p / 4294967296) / 4294967296)
high_is x p =
    let x1 = x / 4294967296 in
    let x0 = x % 4294967296 in
    let p1 = p / 4294967296 in
    let p0 = p % 4294967296 in
    let e : x * p ≡ (x1 * p1 * 4294967296 + x1 * p0) * 4294967296 + (x0 * p1 * 4294967296 + x0 * p0) = ap (λ (z : ℕ). z * p) (sym (halves x)) ∙ ap (λ (z : ℕ). (x1 * 4294967296 + x0) * z) (sym (halves p)) ∙ whole x1 x0 p1 p0 in
    let s = sum_of (x1 * p1) (x1 * p0) (x0 * p1) (x0 * p0) (mul-le-mul (low_half x) (low_half p)) in
    record { full = λ h l. first (x1 * p1) (x1 * p0 / 4294967296) (x0 * p1 / 4294967296) (mul-le-mul (upper-half x h) (upper-part p l)); at_most = rw e s.0; near = rw e s.1 }

-- the sizes of the halves' products, the second number having 60 digits
pub record Sizes (x p : ℕ) : Type 0 where
  pub upper : x / 4294967296 * (p / 4294967296) ≤ 4294967295 * 268435455
  pub left : x / 4294967296 * (p % 4294967296) ≤ 4294967295 * 4294967295
  pub right : x % 4294967296 * (p / 4294967296) ≤ 4294967295 * 268435455

pub sizes : (x p : ℕ) → x < 2 ^ 64 → p < 2 ^ 60 → Sizes x p
sizes x p h l =
    let a : x / 4294967296 ≤ 4294967295 = omega arith in
    let b : p / 4294967296 ≤ 268435455 = omega arith in
    record { upper = mul-le-mul a b; left = mul-le-mul a (low_half p); right = mul-le-mul (low_half x) b }
