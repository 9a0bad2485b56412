-- Factorials divide one another, so that each coefficient is the exact quotient, rounded down. Assumes nothing.
use mathlib.Core.Path.{◌≡◌, sym, ap, ◌∙◌}
use Prim.Native.Nat.{ℕ, zero, suc, ◌+◌, ◌-◌, ◌*◌, ◌/◌, ◌^◌, ◌≤◌, ◌<◌}
use native.Mathlib.Nat.{le_trans, le_of_eq, le_of_lt, mul_assoc, mul_comm, add-mul, one-mul, mul-pos, mul-le-mul_right, mul-div_cancel, div-mul-le_self, lt-div-mul-add, add-zero, add-suc}
use native.Mathlib.Omega.{arith}
use lib.Pow.{pow-add}
use Rattle.trig_rule.specs.Sums.{factorial}
use Rattle.trig_rule.specs.Steps.{weight, coefficient}

pub factorial-pos : (j : ℕ) → 0 < factorial j
unfolding factorial
factorial-pos zero = omega arith
factorial-pos (suc j) = mul-pos (omega arith) (factorial-pos j)

-- what (j + k)! has more than j!
unfoldable more : ℕ → ℕ → ℕ
more j zero = 1
more j (suc k) = suc (j + k) * more j k

more-is : (j k : ℕ) → factorial (j + k) ≡ more j k * factorial j
unfolding more factorial
more-is j zero = rw add-zero (sym (one-mul (factorial j)))
more-is j (suc k) = rw add-suc (ap (λ (n : ℕ). suc (j + k) * n) (more-is j k) ∙ sym (mul_assoc (suc (j + k)) (more j k) (factorial j)))

pub factorial-divides : (N j : ℕ) → j ≤ N → factorial N / factorial j * factorial j ≡ factorial N
factorial-divides N j h =
    let e : factorial N ≡ more j (N - j) * factorial j = ap factorial back ∙ more-is j (N - j) in
    ap (λ (n : ℕ). n / factorial j * factorial j) e ∙ ap (λ (n : ℕ). n * factorial j) (mul-div_cancel (more j (N - j)) (factorial-pos j)) ∙ sym e
  where
    back : N ≡ j + (N - j)
    back = omega arith

pub weight-next : (U j : ℕ) → weight U (j + 4) ≡ 256 * weight U j
weight-next U j =
    ap (λ (k : ℕ). U * 16 ^ k) halves ∙ ap (λ (n : ℕ). U * n) (pow-add 16 (j / 2) 2) ∙ sym (mul_assoc U (16 ^ (j / 2)) 256) ∙ mul_comm (U * 16 ^ (j / 2)) 256
  where
    halves : (j + 4) / 2 ≡ j / 2 + 2
    halves = omega arith

-- U * 16 ^ (j / 2) / j! over the denominator N!: at most one unit is cut
module _ (N U j : ℕ) (h : j ≤ N) where
  abbrev share : ℕ
  share = factorial N / factorial j

  abbrev a : ℕ
  a = coefficient U j

  pub coefficient-low : coefficient U j * factorial N ≤ weight U j * (factorial N / factorial j)
  coefficient-low =
      le_trans (le_of_eq (ap (λ (n : ℕ). a * n) (sym (factorial-divides N j h) ∙ mul_comm share (factorial j)) ∙ sym (mul_assoc a (factorial j) share)))
      (mul-le-mul_right share (div-mul-le_self (weight U j) (factorial j)))

  pub coefficient-high : weight U j * (factorial N / factorial j) ≤ (coefficient U j + 1) * factorial N
  coefficient-high =
      le_trans (mul-le-mul_right share (le_trans (le_of_lt (lt-div-mul-add {a = weight U j} {b = factorial j} (factorial-pos j))) (le_of_eq (sym (add-mul a 1 (factorial j) ∙ ap (λ (n : ℕ). a * factorial j + n) (one-mul (factorial j)))))))
      (le_of_eq (mul_assoc (a + 1) (factorial j) share ∙ ap (λ (n : ℕ). (a + 1) * n) (mul_comm (factorial j) share ∙ factorial-divides N j h)))
