-- Below 2 ^ -12 the angle itself is within 2 ^ -22 of the sine's sum, and 1 of the cosine's: every further term is at most 2 ^ -25, and no turn is subtracted. Assumes nothing.
use mathlib.Core.Path.{◌≡◌, sym, ap, ◌∙◌}
use Prim.Native.Nat.{ℕ, zero, suc, ◌+◌, ◌-◌, ◌*◌, ◌/◌, ◌^◌, ◌≤◌, ◌<◌}
use native.Mathlib.Nat.{mul_assoc, mul_comm, mul_left_comm, mul-add, add-mul, zero-add, one-mul, mul-zero, zero-mul, add-zero, pow-zero, pow-suc}
use native.Mathlib.Nat.{add-le-add, le_refl, le_trans, le_of_eq, le_of_lt, mul-le-mul, mul-le-mul_left, mul-le-mul_right, pow-le-pow_left, pow-le-pow_right}
use native.Mathlib.Omega.{arith}
use mathlib.Core.List.{List, [], ◌∷◌}
use mathlib.Core.Bool.{Bool, true, false, ◌&&◌}
use lib.Dec.{T, leb, leb→le, lit≤}
use lib.ListN.{length}
use lib.Pow.{pow-add}
use lib.Ieee.Fits.{and_l, and_r}
use Rattle.trig_rule.specs.Sums.{factorial, term, terms, whole, sine_side, cosine_side}
use Rattle.trig_rule.specs.Reduction.{turn_units, apart, Reduced}
use Rattle.trig_rule.specs.Rule.{tolerance, Within}
use Rattle.trig_rule.proofs.Factorial.{factorial-pos, factorial-divides}
use Rattle.trig_rule.proofs.Ladder.{up_to}
use Rattle.trig_rule.proofs.Scaled.{pow-product}

-- ---- no turn is subtracted
nearest-none : (n t k : ℕ) → n + n ≤ t → n ≤ apart n (k * t)
nearest-none n t zero h = le_of_eq (sym (ap (λ (m : ℕ). apart n m) (zero-mul t) ∙ none))
  where
    none : apart n 0 ≡ n
    none = omega arith
nearest-none n t (suc k) h =
    let a : 1 * t ≤ suc k * t = mul-le-mul_right t (omega arith) in
    let b : 1 * t ≡ t = one-mul t in
    beyond (suc k * t) (le_trans (le_of_eq (sym b)) a)
  where
    beyond : (m : ℕ) → t ≤ m → n ≤ apart n m
    beyond m l = omega arith

pub little-reduced : (n : ℕ) → n < 2 ^ 137 → Reduced n n false
little-reduced n h =
    record {
      turns = 0;
      left = add-zero n ∙ sym (ap (λ (m : ℕ). m + n) (zero-mul turn_units) ∙ zero-add n);
      smallest = λ k. nearest-none n turn_units k (le_trans (add-le-add (le_of_lt h) (le_of_lt h)) (lit≤ tt));
    }

-- ---- the terms from r ^ 2 / 2! on
-- every exponent is 2 at least
unfoldable two_up : List ℕ → Bool
two_up [] = true
two_up (j ∷ js) = leb 2 j && two_up js

two-le-factorial : (j : ℕ) → 2 ≤ j → 2 ≤ factorial j
unfolding factorial
two-le-factorial zero h = absurd (none h)
  where
    none : 2 ≤ 0 → ⊥
    none h = omega arith
two-le-factorial (suc j) h = le_trans h (le_trans (le_of_eq (one_right (suc j))) (mul-le-mul_left (suc j) (factorial-pos j)))
  where
    one_right : (m : ℕ) → m ≡ m * 1
    one_right m = omega arith

module _ (N n d : ℕ) (small : n * 2 ^ 12 ≤ d) where
  powers-small : (j : ℕ) → 2 ≤ j → 2 ^ 24 * n ^ j ≤ d ^ j
  powers-small j h =
      le_trans (mul-le-mul_right (n ^ j) (le_trans (pow-le-pow_right {n = 2 ^ 12} (omega arith) h) (le_refl ((2 ^ 12) ^ j))))
      (le_trans (le_of_eq (sym (pow-product (2 ^ 12) n j))) (pow-le-pow_left (le_trans (le_of_eq (mul_comm (2 ^ 12) n)) small) j))

  term-small : (j : ℕ) → 2 ≤ j → j ≤ N → 2 ^ 25 * term N n d j ≤ whole N d
  unfolding whole
  term-small j h k =
      let g = factorial N / factorial j in
      let a : 2 ^ 24 * n ^ j * d ^ (N - j) ≤ d ^ N = le_trans (mul-le-mul_right (d ^ (N - j)) (powers-small j h)) (le_of_eq (sym (pow-add d j (N - j)) ∙ ap (λ (m : ℕ). d ^ m) back)) in
      let b : 2 * g ≤ factorial N = le_trans (le_of_eq (mul_comm 2 g)) (le_trans (mul-le-mul_left g (two-le-factorial j h)) (le_of_eq (factorial-divides N j k))) in
      le_trans (le_of_eq (regroup (2 ^ 24) 2 (n ^ j) (d ^ (N - j)) g)) (mul-le-mul a b)
    where
      back : j + (N - j) ≡ N
      back = omega arith

      regroup : (x y a b g : ℕ) → x * y * (a * b * g) ≡ x * a * b * (y * g)
      regroup x y a b g = simp (mul_assoc, mul_left_comm)

  terms-small : (js : List ℕ) → T (two_up js) → T (up_to N js) → 2 ^ 25 * terms N n d js ≤ length js * whole N d
  unfolding terms two_up up_to
  terms-small [] t u = le_of_eq (mul-zero (2 ^ 25) ∙ sym (zero-mul (whole N d)))
  terms-small (j ∷ js) t u =
      let a = term-small j (leb→le 2 j (and_l (leb 2 j) (two_up js) t)) (leb→le j N (and_l (leb j N) (up_to N js) u)) in
      let b = terms-small js (and_r (leb 2 j) (two_up js) t) (and_r (leb j N) (up_to N js) u) in
      le_trans (le_of_eq (mul-add (2 ^ 25) (term N n d j) (terms N n d js))) (le_trans (add-le-add a b) (le_of_eq (one_more (length js) (whole N d))))
    where
      one_more : (l w : ℕ) → w + l * w ≡ suc l * w
      one_more l w = sym (ap (λ (m : ℕ). m + l * w) (one-mul w)) ∙ sym (add-mul 1 l w) ∙ ap (λ (m : ℕ). m * w) next
        where
          next : 1 + l ≡ suc l
          next = omega arith

  -- eight of them at most
  rest-small : (js : List ℕ) → T (two_up js) → T (up_to N js) → length js ≤ 8 → 2 ^ 149 * terms N n d js ≤ tolerance * whole N d
  rest-small js t u l =
      le_trans (le_of_eq (mul_assoc (2 ^ 124) (2 ^ 25) (terms N n d js)))
      (le_trans (mul-le-mul_left (2 ^ 124) (le_trans (terms-small js t u) (mul-le-mul_right (whole N d) l))) (le_trans (le_of_eq (sym (mul_assoc (2 ^ 124) 8 (whole N d)))) (mul-le-mul_right (whole N d) (lit≤ tt))))

-- ---- m is the first term, and the others are small
add-three : (x y z b : ℕ) → y ≤ b → x + y ≤ x + z + b
add-three x y z b h = omega arith

first-only : (m t1 a t w : ℕ) → 2 ^ 149 * t1 ≡ m * w → 2 ^ 149 * a ≤ tolerance * w → 2 ^ 149 * t ≤ tolerance * w → Within m (t1 + a) t w
first-only m t1 a t w e ha ht =
    record {
      above = le_trans (add-three (m * w) (2 ^ 149 * t) (2 ^ 149 * a) (tolerance * w) ht) (le_of_eq (ap (λ (x : ℕ). x + tolerance * w) (ap (λ (x : ℕ). x + 2 ^ 149 * a) (sym e) ∙ sym (mul-add (2 ^ 149) t1 a))));
      below = le_trans (le_of_eq (mul-add (2 ^ 149) t1 a ∙ ap (λ (x : ℕ). x + 2 ^ 149 * a) e)) (add-three (m * w) (2 ^ 149 * a) (2 ^ 149 * t) (tolerance * w) ha);
    }

small-angle : (n : ℕ) → n < 2 ^ 137 → n * 2 ^ 12 ≤ 2 ^ 149
small-angle n h = mul-le-mul_right (2 ^ 12) (le_of_lt h)

sine-first : (n : ℕ) → 2 ^ 149 * (n ^ 1 * (2 ^ 149) ^ 30 * (factorial 31 / factorial 1)) ≡ n * whole 31 (2 ^ 149)
unfolding whole factorial
sine-first n =
    ap (λ (m : ℕ). 2 ^ 149 * (m * (2 ^ 149) ^ 30 * (factorial 31 / factorial 1))) (pow-suc n 0 ∙ ap (λ (m : ℕ). m * n) (pow-zero n) ∙ one-mul n) ∙ regroup (2 ^ 149) n ((2 ^ 149) ^ 30) (factorial 31)
  where
    regroup : (a r b g : ℕ) → a * (r * b * g) ≡ r * (a * b * g)
    regroup a r b g = simp (mul_assoc, mul_left_comm)

pub sine-little : (n : ℕ) → n < 2 ^ 137 → Within n (sine_side true n (2 ^ 149)) (sine_side false n (2 ^ 149)) (whole 31 (2 ^ 149))
unfolding terms two_up up_to
sine-little n h =
    let js : List ℕ = 5 ∷ 9 ∷ 13 ∷ 17 ∷ 21 ∷ 25 ∷ 29 ∷ [] in
    let ks : List ℕ = 3 ∷ 7 ∷ 11 ∷ 15 ∷ 19 ∷ 23 ∷ 27 ∷ 31 ∷ [] in
    first-only n (n ^ 1 * (2 ^ 149) ^ 30 * (factorial 31 / factorial 1)) (terms 31 n (2 ^ 149) js) (terms 31 n (2 ^ 149) ks) (whole 31 (2 ^ 149)) (sine-first n)
    (rest-small 31 n (2 ^ 149) (small-angle n h) js tt tt (lit≤ tt)) (rest-small 31 n (2 ^ 149) (small-angle n h) ks tt tt (lit≤ tt))

cosine-first : (n : ℕ) → 2 ^ 149 * (n ^ 0 * (2 ^ 149) ^ 30 * (factorial 30 / factorial 0)) ≡ 2 ^ 149 * whole 30 (2 ^ 149)
unfolding whole factorial
cosine-first n = ap (λ (m : ℕ). 2 ^ 149 * (m * (2 ^ 149) ^ 30 * (factorial 30 / factorial 0))) (pow-zero n)

pub cosine-little : (n : ℕ) → n < 2 ^ 137 → Within (2 ^ 149) (cosine_side true n (2 ^ 149)) (cosine_side false n (2 ^ 149)) (whole 30 (2 ^ 149))
unfolding terms two_up up_to
cosine-little n h =
    let js : List ℕ = 4 ∷ 8 ∷ 12 ∷ 16 ∷ 20 ∷ 24 ∷ 28 ∷ [] in
    let ks : List ℕ = 2 ∷ 6 ∷ 10 ∷ 14 ∷ 18 ∷ 22 ∷ 26 ∷ 30 ∷ [] in
    first-only (2 ^ 149) (n ^ 0 * (2 ^ 149) ^ 30 * (factorial 30 / factorial 0)) (terms 30 n (2 ^ 149) js) (terms 30 n (2 ^ 149) ks) (whole 30 (2 ^ 149)) (cosine-first n)
    (rest-small 30 n (2 ^ 149) (small-angle n h) js tt tt (lit≤ tt)) (rest-small 30 n (2 ^ 149) (small-angle n h) ks tt tt (lit≤ tt))
