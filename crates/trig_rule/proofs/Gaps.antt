-- How far apart the two sides of the steps can be: the sine's by 1 at most, and the cosine's by less than 4. Assumes nothing.
use mathlib.Core.Path.{◌≡◌, refl, sym}
use Prim.Native.Nat.{ℕ, ◌+◌, ◌-◌, ◌*◌, ◌/◌, ◌^◌, ◌≤◌, ◌<◌}
use native.Mathlib.Nat.{add-le-add, le_trans, le_of_eq, lt_of_not-le, mul_assoc, mul_right_comm, mul-add, mul-le-mul, mul-le-mul_left, mul-le-mul_right, le_of_mul-le-mul_right, div-mul-le_self}
use native.Mathlib.Omega.{arith}
use native.Mathlib.Decide.{dec_le}
use mathlib.Core.List.{List, [], ◌∷◌}
use mathlib.Core.Bool.{Bool, true, false, ◌&&◌}
use lib.Dec.{T, leb, leb→le}
use lib.Ieee.Fits.{and_l, and_r}
use borrow.Author.Tests.{le-leb, lt-leb}
use Rattle.trig_rule.specs.Sums.{factorial}
use Rattle.trig_rule.specs.Steps.{half, square_of, fourth_of, coefficient, ladder, sine_plus, sine_minus, cosine_plus, cosine_minus, gap_of}
use Rattle.trig_rule.proofs.Ladder.{most, peak, ladder-le}
use Rattle.trig_rule.proofs.Sided.{powers}

-- ---- two ladders, the coefficients of the one at most those of the other
unfoldable under : ℕ → List ℕ → List ℕ → Bool
under U [] ks = true
under U (j ∷ js) [] = false
under U (j ∷ js) (k ∷ ks) = leb (coefficient U j) (coefficient U k) && under U js ks

div_mono : {a b : ℕ} → a ≤ b → a / 2 ^ 32 ≤ b / 2 ^ 32
div_mono h = omega arith

ladder-mono : (U v : ℕ) (js ks : List ℕ) → T (under U js ks) → ladder U v js ≤ ladder U v ks
unfolding under ladder
ladder-mono U v [] ks t = omega arith
ladder-mono U v (j ∷ js) [] t = absurd t
ladder-mono U v (j ∷ js) (k ∷ ks) t =
    let a = leb (coefficient U j) (coefficient U k) in
    add-le-add (leb→le (coefficient U j) (coefficient U k) (and_l a (under U js ks) t)) (div_mono (mul-le-mul_left v (ladder-mono U v js ks (and_r a (under U js ks) t))))

gap-le : (a t n : ℕ) → a ≤ t + n → t ≤ a + n → gap_of a t ≤ n
gap-le a t n h k = go (dec_le t a)
  where
    go : Dec (t ≤ a) → gap_of a t ≤ n
    go (yes l) = simp (le-leb t a l) (omega arith)
    go (no f) = simp (lt-leb t a (lt_of_not-le f)) (omega arith)

module _ (R : ℕ) (small : R ≤ half) where
  abbrev z : ℕ
  z = square_of R

  abbrev v : ℕ
  v = fourth_of R

  z-le : square_of R ≤ 2649351757
  z-le = (powers R small).square_le

  v-le-z : fourth_of R ≤ square_of R
  v-le-z =
      let a : z * z ≤ 2649351757 * z = mul-le-mul_right z z-le in
      let b : v * 2 ^ 32 ≤ z * z = div-mul-le_self (z * z) (2 ^ 32) in
      omega arith

  peak-le : (U : ℕ) (js : List ℕ) → ladder U (fourth_of R) js ≤ peak U js
  peak-le U js = let p = powers R small in ladder-le 0 U (2 ^ 200) (2 ^ 224) (R ^ 4) v refl p.fourth-low p.fourth-high p.fourth-le js

  -- ---- the sine: what is added beside the 1 is at most what is taken away, and that is less than 2
  pub sine-gap : gap_of (sine_plus R) (sine_minus R) ≤ 2 ^ 30
  unfolding under peak factorial
  sine-gap =
      let e = ladder (2 ^ 30) v (5 ∷ 9 ∷ 13 ∷ 17 ∷ []) in
      let o = ladder (2 ^ 30) v (3 ∷ 7 ∷ 11 ∷ 15 ∷ []) in
      let order : v * e ≤ z * o = mul-le-mul v-le-z (ladder-mono (2 ^ 30) v (5 ∷ 9 ∷ 13 ∷ 17 ∷ []) (3 ∷ 7 ∷ 11 ∷ 15 ∷ []) tt) in
      let most-o : o ≤ 3199446237 = peak-le (2 ^ 30) (3 ∷ 7 ∷ 11 ∷ 15 ∷ []) in
      let top : z * o ≤ 2649351757 * 3199446237 = mul-le-mul z-le most-o in
      gap-le (sine_plus R) (sine_minus R) (2 ^ 30) (omega arith) (omega arith)

  -- ---- the cosine: the same, and what is taken away is at most r ^ 2 / 2 more
  pub cosine-gap : gap_of (cosine_plus R) (cosine_minus R) < 2 ^ 30
  unfolding under peak factorial ladder
  cosine-gap =
      let e = ladder (2 ^ 28) v (4 ∷ 8 ∷ 12 ∷ 16 ∷ []) in
      let o = ladder (2 ^ 28) v (6 ∷ 10 ∷ 14 ∷ 18 ∷ []) in
      let q = v * o / 2 ^ 32 in
      let most-z : z ≤ 2649351757 = z-le in
      let most-e : e ≤ 3030695216 = peak-le (2 ^ 28) (4 ∷ 8 ∷ 12 ∷ 16 ∷ []) in
      let fourth : v * 2 ^ 32 ≤ z * z = div-mul-le_self (z * z) (2 ^ 32) in
      let scaled : v * e * 2 ^ 32 ≤ z * 2147483648 * 2 ^ 32 =
      le_trans (le_of_eq (mul_right_comm v e (2 ^ 32)))
      (le_trans (mul-le-mul_right e fourth)
      (le_trans (le_of_eq (mul_assoc z z e)) (le_trans (mul-le-mul_left z (le_trans (mul-le-mul z-le most-e) (omega arith))) (le_of_eq (sym (mul_assoc z 2147483648 (2 ^ 32))))))) in
      let order : v * e ≤ z * 2147483648 = le_of_mul-le-mul_right {k = 2 ^ 32} scaled (omega arith) in
      let inner : v * o ≤ v * e = mul-le-mul_left v (ladder-mono (2 ^ 28) v (6 ∷ 10 ∷ 14 ∷ 18 ∷ []) (4 ∷ 8 ∷ 12 ∷ 16 ∷ []) tt) in
      let split : z * (2147483648 + q) ≡ z * 2147483648 + z * q = mul-add z 2147483648 q in
      let wide : z * q ≤ 2 ^ 32 * q = mul-le-mul_right q (le_trans z-le (omega arith)) in
      let bound : gap_of (cosine_plus R) (cosine_minus R) ≤ 2 ^ 30 - 1 = gap-le (cosine_plus R) (cosine_minus R) (2 ^ 30 - 1) (omega arith) (omega arith) in
      omega arith
