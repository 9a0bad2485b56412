-- A side of a sum by Horner's rule in r ^ 4 is the same side term by term. Assumes nothing.
use mathlib.Core.Path.{◌≡◌, sym, ap, ◌∙◌}
use Prim.Native.Nat.{ℕ, suc, ◌+◌, ◌-◌, ◌*◌, ◌/◌, ◌^◌}
use native.Mathlib.Nat.{mul_assoc, mul_comm, mul_left_comm, mul-add, mul-zero, pow-zero}
use native.Mathlib.Omega.{arith}
use mathlib.Core.List.{List, [], ◌∷◌}
use mathlib.Core.Bool.{Bool, true, ◌&&◌}
use lib.Dec.{T, eqb, eqb→eq}
use lib.ListN.{length}
use lib.Pow.{pow-add}
use lib.Ieee.Fits.{and_l, and_r}
use Rattle.trig_rule.specs.Sums.{factorial, terms}

-- the exponents js are j, j + 4, j + 8 and so on
unfoldable pub follows : ℕ → List ℕ → Bool
follows j [] = true
follows j (i ∷ js) = eqb i j && follows (j + 4) js

pub follows-head : (j i : ℕ) (js : List ℕ) → T (follows j (i ∷ js)) → i ≡ j
unfolding follows
follows-head j i js t = eqb→eq i j (and_l (eqb i j) (follows (j + 4) js) t)

pub follows-tail : (j i : ℕ) (js : List ℕ) → T (follows j (i ∷ js)) → T (follows (j + 4) js)
unfolding follows
follows-tail j i js t = and_r (eqb i j) (follows (j + 4) js) t

-- the denominator, D for each exponent, and the numerator of the sum of r ^ (i - j) / i! times N!: Q is r's numerator to the fourth, and D its denominator
unfoldable pub wide : ℕ → List ℕ → ℕ
wide D [] = 1
wide D (j ∷ js) = D * wide D js

unfoldable pub nested : ℕ → ℕ → ℕ → List ℕ → ℕ
unfolding wide
nested N Q D [] = 0
nested N Q D (j ∷ js) = factorial N / factorial j * (D * wide D js) + Q * nested N Q D js

pub wide_is : (d : ℕ) (js : List ℕ) → wide (d ^ 4) js ≡ d ^ (4 * length js)
unfolding wide
wide_is d [] = sym (pow-zero d)
wide_is d (j ∷ js) = ap (λ (n : ℕ). d ^ 4 * n) (wide_is d js) ∙ sym (pow-add d 4 (4 * length js)) ∙ ap (λ (k : ℕ). d ^ k) (sum (length js))
  where
    sum : (l : ℕ) → 4 + 4 * l ≡ 4 * suc l
    sum l = omega arith

-- with k the power of d that the last term has
pub nested_is : (N n d k j : ℕ) (js : List ℕ) → T (follows j js) → k + j + 4 * length js ≡ N + 4 → n ^ j * d ^ k * nested N (n ^ 4) (d ^ 4) js ≡ d ^ 4 * terms N n d js
unfolding nested terms
nested_is N n d k j [] t e = mul-zero (n ^ j * d ^ k) ∙ sym (mul-zero (d ^ 4))
nested_is N n d k j (i ∷ js) t e =
    let h : i ≡ j = follows-head j i js t in
    let l = length js in
    let share = factorial N / factorial i in
    let rest = nested N (n ^ 4) (d ^ 4) js in
    let again : n ^ (j + 4) * d ^ k * rest ≡ d ^ 4 * terms N n d js = nested_is N n d k (j + 4) js (follows-tail j i js t) (next l e) in
    let first : n ^ j * d ^ k * (share * (d ^ 4 * wide (d ^ 4) js)) ≡ d ^ 4 * (n ^ i * d ^ (N - i) * share) =
    ap (λ (m : ℕ). n ^ j * d ^ k * (share * (d ^ 4 * m))) (wide_is d js)
    ∙ gather (n ^ j) (d ^ k) share (d ^ 4) (d ^ (4 * l))
    ∙ ap (λ (m : ℕ). d ^ 4 * (n ^ j * m * share)) (sym (pow-add d k (4 * l)) ∙ ap (λ (m : ℕ). d ^ m) (exponent l e h))
    ∙ ap (λ (m : ℕ). d ^ 4 * (n ^ m * d ^ (N - i) * share)) (sym h) in
    let others : n ^ j * d ^ k * (n ^ 4 * rest) ≡ d ^ 4 * terms N n d js =
    swap (n ^ j) (d ^ k) (n ^ 4) rest ∙ ap (λ (m : ℕ). m * d ^ k * rest) (sym (pow-add n j 4)) ∙ again in
    mul-add (n ^ j * d ^ k) (share * (d ^ 4 * wide (d ^ 4) js)) (n ^ 4 * rest)
    ∙ ap (λ (m : ℕ). m + n ^ j * d ^ k * (n ^ 4 * rest)) first
    ∙ ap (λ (m : ℕ). d ^ 4 * (n ^ i * d ^ (N - i) * share) + m) others
    ∙ sym (mul-add (d ^ 4) (n ^ i * d ^ (N - i) * share) (terms N n d js))
  where
    next : (l : ℕ) → k + j + 4 * suc l ≡ N + 4 → k + (j + 4) + 4 * l ≡ N + 4
    next l e = omega arith

    exponent : (l : ℕ) → k + j + 4 * suc l ≡ N + 4 → i ≡ j → k + 4 * l ≡ N - i
    exponent l e h = omega arith

    gather : (a b c x y : ℕ) → a * b * (c * (x * y)) ≡ x * (a * (b * y) * c)
    gather a b c x y = simp (mul_assoc, mul_comm, mul_left_comm)

    swap : (a b x y : ℕ) → a * b * (x * y) ≡ a * x * b * y
    swap a b x y = simp (mul_assoc, mul_comm)
