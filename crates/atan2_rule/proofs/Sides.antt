-- How the four sides by steps grow with the angle: none falls, and over a step of at most 2 ^ -22 each rises by no more than antt computes from its list of exponents.
-- Every step rounds down, so that a product's rise costs one unit. Assumes nothing.
use mathlib.Core.Path.{◌≡◌, sym}
use Prim.Native.Nat.{ℕ, ◌+◌, ◌*◌, ◌/◌, ◌^◌, ◌≤◌}
use native.Mathlib.Nat.{le_refl, le_trans, le_of_eq, add-le-add, add_assoc, mul-add, add-mul, mul-le-mul, mul-le-mul_left, mul-le-mul_right}
use native.Mathlib.Omega.{arith}
use mathlib.Core.List.{List, [], ◌∷◌}
use lib.Dec.{lit≤}
use Rattle.trig_rule.specs.Sums.{factorial}
use Rattle.trig_rule.specs.Steps.{half, square_of, fourth_of, coefficient, risen, ladder, sine_plus, sine_minus, cosine_plus, cosine_minus}
use Rattle.atan2_rule.specs.Steps.{cosine_up, cosine_down, sine_up, sine_down}

-- ---- no side falls
div_mono : {a b : ℕ} → a ≤ b → a / 2 ^ 32 ≤ b / 2 ^ 32
div_mono h = omega arith

risen-mono : (a v w h k : ℕ) → v ≤ w → h ≤ k → risen a v h ≤ risen a w k
risen-mono a v w h k p q = add-le-add (le_refl a) (div_mono (mul-le-mul p q))

ladder-mono : (U v w : ℕ) (js : List ℕ) → v ≤ w → ladder U v js ≤ ladder U w js
unfolding ladder
ladder-mono U v w [] h = le_refl 0
ladder-mono U v w (j ∷ js) h = risen-mono (coefficient U j) v w (ladder U v js) (ladder U w js) h (ladder-mono U v w js h)

cut-mono : {R S : ℕ} → R ≤ S → R / 2 ^ 26 ≤ S / 2 ^ 26
cut-mono h = omega arith

square-mono : {R S : ℕ} → R ≤ S → square_of R ≤ square_of S
square-mono h = div_mono (mul-le-mul (cut-mono h) (cut-mono h))

fourth-mono : {R S : ℕ} → R ≤ S → fourth_of R ≤ fourth_of S
fourth-mono h = div_mono (mul-le-mul (square-mono h) (square-mono h))

module _ (R S : ℕ) (h : R ≤ S) where
  -- a side that begins with r ^ 4, and one that begins with r ^ 2
  fourth-side-mono : (U : ℕ) (js : List ℕ) → risen U (fourth_of R) (ladder U (fourth_of R) js) ≤ risen U (fourth_of S) (ladder U (fourth_of S) js)
  fourth-side-mono U js =
      risen-mono U (fourth_of R) (fourth_of S) (ladder U (fourth_of R) js) (ladder U (fourth_of S) js) (fourth-mono h) (ladder-mono U (fourth_of R) (fourth_of S) js (fourth-mono h))

  square-side-mono : (U : ℕ) (js : List ℕ) → risen 0 (square_of R) (ladder U (fourth_of R) js) ≤ risen 0 (square_of S) (ladder U (fourth_of S) js)
  square-side-mono U js =
      risen-mono 0 (square_of R) (square_of S) (ladder U (fourth_of R) js) (ladder U (fourth_of S) js) (square-mono h) (ladder-mono U (fourth_of R) (fourth_of S) js (fourth-mono h))

  pub sine-plus-mono : sine_plus R ≤ sine_plus S
  sine-plus-mono = fourth-side-mono (2 ^ 30) (5 ∷ 9 ∷ 13 ∷ 17 ∷ [])

  pub sine-minus-mono : sine_minus R ≤ sine_minus S
  sine-minus-mono = square-side-mono (2 ^ 30) (3 ∷ 7 ∷ 11 ∷ 15 ∷ [])

  cosine-plus-mono : cosine_plus R ≤ cosine_plus S
  cosine-plus-mono = fourth-side-mono (2 ^ 28) (4 ∷ 8 ∷ 12 ∷ 16 ∷ [])

  cosine-minus-mono : cosine_minus R ≤ cosine_minus S
  cosine-minus-mono = square-side-mono (2 ^ 28) (2 ∷ 6 ∷ 10 ∷ 14 ∷ 18 ∷ [])

  pub cosine-up-mono : cosine_up R ≤ cosine_up S
  cosine-up-mono = mul-le-mul_left 4 cosine-plus-mono

  pub cosine-down-mono : cosine_down R ≤ cosine_down S
  cosine-down-mono = mul-le-mul_left 4 cosine-minus-mono

  sized-mono : (g k : ℕ) → g ≤ k → R / 2 ^ 26 * g / 2 ^ 30 ≤ S / 2 ^ 26 * k / 2 ^ 30
  sized-mono g k l = let a : R / 2 ^ 26 * g ≤ S / 2 ^ 26 * k = mul-le-mul (cut-mono h) l in thirty a
    where
      thirty : {a b : ℕ} → a ≤ b → a / 2 ^ 30 ≤ b / 2 ^ 30
      thirty p = omega arith

  pub sine-up-mono : sine_up R ≤ sine_up S
  sine-up-mono = sized-mono (sine_plus R) (sine_plus S) sine-plus-mono

  pub sine-down-mono : sine_down R ≤ sine_down S
  sine-down-mono = sized-mono (sine_minus R) (sine_minus S) sine-minus-mono

-- ---- at half a turn
-- the largest square and fourth power of an angle of at most half a turn
abbrev most_square : ℕ
most_square = 2649351757

abbrev most_fourth : ℕ
most_fourth = 1634253359

square-most : (R : ℕ) → R ≤ half → square_of R ≤ most_square
square-most R h = square-mono {S = half} h

fourth-most : (R : ℕ) → R ≤ half → fourth_of R ≤ most_fourth
fourth-most R h = fourth-mono {S = half} h

module _ (R : ℕ) (h : R ≤ half) where
  pub sine-plus-most : sine_plus R ≤ 1973579298
  unfolding ladder factorial
  sine-plus-most = le_trans (sine-plus-mono R half h) (lit≤ tt)

  pub sine-minus-most : sine_minus R ≤ 1973579290
  unfolding ladder factorial
  sine-minus-most = le_trans (sine-minus-mono R half h) (lit≤ tt)

  pub cosine-up-most : cosine_up R ≤ 5686511600
  unfolding ladder factorial
  cosine-up-most = le_trans (cosine-up-mono R half h) (lit≤ tt)

  pub cosine-down-most : cosine_down R ≤ 6760253432
  unfolding ladder factorial
  cosine-down-most = le_trans (cosine-down-mono R half h) (lit≤ tt)

  pub sine-up-most : sine_up R ≤ 6200182223
  unfolding ladder factorial
  sine-up-most = le_trans (sine-up-mono R half h) (lit≤ tt)

  pub sine-down-most : sine_down R ≤ 6200182198
  unfolding ladder factorial
  sine-down-most = le_trans (sine-down-mono R half h) (lit≤ tt)

-- ---- how far a product of v and h rises, where v rises by at most e up to M and h by at most d up to H
abbrev lift : ℕ → ℕ → ℕ → ℕ → ℕ
lift M H e d = (M * d + e * H) / 2 ^ 32 + 1

product-rise : (v w h k M H e d : ℕ) → v ≤ M → w ≤ v + e → k ≤ h + d → k ≤ H → w * k ≤ v * h + (M * d + e * H)
product-rise v w h k M H e d a b c f =
    let p : w * k ≤ (v + e) * k = mul-le-mul_right k b in
    let q : (v + e) * k ≡ v * k + e * k = add-mul v e k in
    let r : v * k ≤ v * (h + d) = mul-le-mul_left v c in
    let s : v * (h + d) ≡ v * h + v * d = mul-add v h d in
    let t : v * d ≤ M * d = mul-le-mul_right d a in
    let u : e * k ≤ e * H = mul-le-mul_left e f in
    omega arith

cut-rise : (x y n : ℕ) → y ≤ x + n → y / 2 ^ 32 ≤ x / 2 ^ 32 + (n / 2 ^ 32 + 1)
cut-rise x y n h = omega arith

risen-rise : (a v w h k M H e d : ℕ) → v ≤ M → w ≤ v + e → k ≤ h + d → k ≤ H → risen a w k ≤ risen a v h + lift M H e d
risen-rise a v w h k M H e d p q r s = le_trans (add-le-add (le_refl a) (cut-rise (v * h) (w * k) (M * d + e * H) (product-rise v w h k M H e d p q r s))) (le_of_eq (sym (add_assoc a (v * h / 2 ^ 32) (lift M H e d))))

-- the same of a ladder, whose v rises by at most e
unfoldable rise : ℕ → ℕ → List ℕ → ℕ
unfolding ladder
rise U e [] = 0
rise U e (j ∷ js) = lift most_fourth (ladder U most_fourth js) e (rise U e js)

ladder-rise : (U v w e : ℕ) (js : List ℕ) → v ≤ most_fourth → w ≤ most_fourth → w ≤ v + e → ladder U w js ≤ ladder U v js + rise U e js
unfolding ladder rise
ladder-rise U v w e [] a b c = le_refl 0
ladder-rise U v w e (j ∷ js) a b c =
    risen-rise (coefficient U j) v w (ladder U v js) (ladder U w js) most_fourth (ladder U most_fourth js) e (rise U e js) a c (ladder-rise U v w e js a b c) (ladder-mono U w most_fourth js b)

-- ---- a step of at most 2 ^ -22: 2 ^ 34 in units of 2 ^ -56
module _ (R S : ℕ) (most : S ≤ half) (up : R ≤ S) (near : S ≤ R + 2 ^ 34) where
  below : R ≤ half
  below = le_trans up most

  cut-moves : S / 2 ^ 26 ≤ R / 2 ^ 26 + 256
  cut-moves = omega arith

  cut_most : {X : ℕ} → X ≤ half → X / 2 ^ 26 ≤ 3373259426
  cut_most h = omega arith

  square-moves : square_of S ≤ square_of R + 403
  square-moves = cut-rise (R / 2 ^ 26 * (R / 2 ^ 26)) (S / 2 ^ 26 * (S / 2 ^ 26)) (3373259426 * 256 + 256 * 3373259426)
      (product-rise (R / 2 ^ 26) (S / 2 ^ 26) (R / 2 ^ 26) (S / 2 ^ 26) 3373259426 3373259426 256 256 (cut_most below) cut-moves cut-moves (cut_most most))

  fourth-moves : fourth_of S ≤ fourth_of R + 498
  fourth-moves = cut-rise (square_of R * square_of R) (square_of S * square_of S) (most_square * 403 + 403 * most_square)
      (product-rise (square_of R) (square_of S) (square_of R) (square_of S) most_square most_square 403 403 (square-most R below) square-moves square-moves (square-most S most))

  ladder-moves : (U : ℕ) (js : List ℕ) → ladder U (fourth_of S) js ≤ ladder U (fourth_of R) js + rise U 498 js
  ladder-moves U js = ladder-rise U (fourth_of R) (fourth_of S) 498 js (fourth-most R below) (fourth-most S most) fourth-moves

  -- a side that begins with r ^ 4, and one that begins with r ^ 2
  fourth-side : (U : ℕ) (js : List ℕ) → risen U (fourth_of S) (ladder U (fourth_of S) js) ≤ risen U (fourth_of R) (ladder U (fourth_of R) js) + lift most_fourth (ladder U most_fourth js) 498 (rise U 498 js)
  fourth-side U js =
      risen-rise U (fourth_of R) (fourth_of S) (ladder U (fourth_of R) js) (ladder U (fourth_of S) js) most_fourth (ladder U most_fourth js) 498 (rise U 498 js)
      (fourth-most R below) fourth-moves (ladder-moves U js) (ladder-mono U (fourth_of S) most_fourth js (fourth-most S most))

  square-side : (U : ℕ) (js : List ℕ) → risen 0 (square_of S) (ladder U (fourth_of S) js) ≤ risen 0 (square_of R) (ladder U (fourth_of R) js) + lift most_square (ladder U most_fourth js) 403 (rise U 498 js)
  square-side U js =
      risen-rise 0 (square_of R) (square_of S) (ladder U (fourth_of R) js) (ladder U (fourth_of S) js) most_square (ladder U most_fourth js) 403 (rise U 498 js)
      (square-most R below) square-moves (ladder-moves U js) (ladder-mono U (fourth_of S) most_fourth js (fourth-most S most))

  pub cosine-down-moves : cosine_down S ≤ cosine_down R + 1488
  unfolding ladder factorial rise
  cosine-down-moves = le_trans (mul-le-mul_left 4 (square-side (2 ^ 28) (2 ∷ 6 ∷ 10 ∷ 14 ∷ 18 ∷ []))) (le_of_eq (mul-add 4 (cosine_minus R) 372))

  sine-plus-moves : sine_plus S ≤ sine_plus R + 283
  unfolding ladder factorial rise
  sine-plus-moves = fourth-side (2 ^ 30) (5 ∷ 9 ∷ 13 ∷ 17 ∷ [])

  sine-minus-moves : sine_minus S ≤ sine_minus R + 365
  unfolding ladder factorial rise
  sine-minus-moves = square-side (2 ^ 30) (3 ∷ 7 ∷ 11 ∷ 15 ∷ [])

  -- times r
  sized-moves : (g k H d : ℕ) → k ≤ g + d → k ≤ H → S / 2 ^ 26 * k / 2 ^ 30 ≤ R / 2 ^ 26 * g / 2 ^ 30 + ((3373259426 * d + 256 * H) / 2 ^ 30 + 1)
  sized-moves g k H d a b = thirty (R / 2 ^ 26 * g) (S / 2 ^ 26 * k) (3373259426 * d + 256 * H) (product-rise (R / 2 ^ 26) (S / 2 ^ 26) g k 3373259426 H 256 d (cut_most below) cut-moves a b)
    where
      thirty : (x y n : ℕ) → y ≤ x + n → y / 2 ^ 30 ≤ x / 2 ^ 30 + (n / 2 ^ 30 + 1)
      thirty x y n h = omega arith

  pub sine-up-moves : sine_up S ≤ sine_up R + 1618
  sine-up-moves = le_trans (sized-moves (sine_plus R) (sine_plus S) 1973579298 283 sine-plus-moves (sine-plus-most S most)) (add-le-add (le_refl (sine_up R)) (lit≤ tt))

  pub sine-down-moves : sine_down S ≤ sine_down R + 1618
  sine-down-moves = le_trans (sized-moves (sine_minus R) (sine_minus S) 1973579290 365 sine-minus-moves (sine-minus-most S most)) (add-le-add (le_refl (sine_down R)) (lit≤ tt))
