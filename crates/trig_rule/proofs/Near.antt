-- What the steps add and take away is near what the sums add and take away, at an angle R / 2 ^ 56 of at most half a turn.
-- A side of the steps is never above its side of the sum, so that their difference is off by the larger of the two errors. Assumes nothing.
use mathlib.Core.Path.{◌≡◌, refl, sym, ap, ◌∙◌, subst}
use Prim.Native.Nat.{ℕ, ◌+◌, ◌*◌, ◌/◌, ◌^◌, ◌≤◌}
use native.Mathlib.Nat.{add-le-add, le_refl, le_trans, le_of_eq, mul_assoc, mul_comm, mul_left_comm, mul-add, add-mul, zero-add, one-mul, mul-le-mul_right, mul-le-mul_left, pow-zero, pow-suc}
use native.Mathlib.Omega.{arith}
use mathlib.Core.List.{[], ◌∷◌}
use lib.Dec.{lit≤}
use Rattle.trig_rule.specs.Sums.{factorial, terms, whole, sine_added, sine_taken, cosine_added, cosine_taken}
use Rattle.trig_rule.specs.Steps.{half, square_of, fourth_of, ladder, sine_plus, sine_minus, cosine_plus, cosine_minus}
use Rattle.trig_rule.proofs.Nested.{follows}
use Rattle.trig_rule.proofs.Ladder.{peak, lost, lack, up_to}
use Rattle.trig_rule.proofs.Sided.{Sided, four, two}

-- ---- the four sides, the first terms apart
sine-plus-side : (R : ℕ) → R ≤ half → Sided 31 R (2 ^ 30) 1 (fourth_of R * ladder (2 ^ 30) (fourth_of R) (5 ∷ 9 ∷ 13 ∷ 17 ∷ []) / 2 ^ 32) 6 (5 ∷ 9 ∷ 13 ∷ 17 ∷ 21 ∷ 25 ∷ 29 ∷ [])
unfolding follows up_to peak lost lack factorial
sine-plus-side R h = four 31 (2 ^ 30) 1 2 5 (5 ∷ 9 ∷ 13 ∷ 17 ∷ []) (21 ∷ 25 ∷ 29 ∷ []) tt tt refl R h 5 refl refl (lit≤ tt)

sine-minus-side : (R : ℕ) → R ≤ half → Sided 31 R (2 ^ 30) 1 (square_of R * ladder (2 ^ 30) (fourth_of R) (3 ∷ 7 ∷ 11 ∷ 15 ∷ []) / 2 ^ 32) 15 (3 ∷ 7 ∷ 11 ∷ 15 ∷ 19 ∷ 23 ∷ 27 ∷ 31 ∷ [])
unfolding follows up_to peak lost lack factorial
sine-minus-side R h = two 31 (2 ^ 30) 1 0 3 (3 ∷ 7 ∷ 11 ∷ 15 ∷ []) (19 ∷ 23 ∷ 27 ∷ 31 ∷ []) tt tt refl R h 14 refl refl (lit≤ tt)

cosine-plus-side : (R : ℕ) → R ≤ half → Sided 30 R (2 ^ 28) 0 (fourth_of R * ladder (2 ^ 28) (fourth_of R) (4 ∷ 8 ∷ 12 ∷ 16 ∷ []) / 2 ^ 32) 8 (4 ∷ 8 ∷ 12 ∷ 16 ∷ 20 ∷ 24 ∷ 28 ∷ [])
unfolding follows up_to peak lost lack factorial
cosine-plus-side R h = four 30 (2 ^ 28) 0 2 4 (4 ∷ 8 ∷ 12 ∷ 16 ∷ []) (20 ∷ 24 ∷ 28 ∷ []) tt tt refl R h 7 refl refl (lit≤ tt)

cosine-minus-side : (R : ℕ) → R ≤ half → Sided 30 R (2 ^ 28) 0 (square_of R * ladder (2 ^ 28) (fourth_of R) (2 ∷ 6 ∷ 10 ∷ 14 ∷ 18 ∷ []) / 2 ^ 32) 7 (2 ∷ 6 ∷ 10 ∷ 14 ∷ 18 ∷ 22 ∷ 26 ∷ 30 ∷ [])
unfolding follows up_to peak lost lack factorial
cosine-minus-side R h = two 30 (2 ^ 28) 0 0 2 (2 ∷ 6 ∷ 10 ∷ 14 ∷ 18 ∷ []) (22 ∷ 26 ∷ 30 ∷ []) tt tt refl R h 6 refl refl (lit≤ tt)

-- ---- the sums over the whole W: a step's side q, the angle's factor n, and the first term U
first-low : (U v q n W t1 t : ℕ) → v * t1 ≡ U * (n * W) → q * (n * W) ≤ v * t → n * (U + q) * W ≤ v * (t1 + t)
first-low U v q n W t1 t e h =
    le_trans (le_of_eq left) (le_trans (add-le-add (le_of_eq (sym e)) h) (le_of_eq (sym (mul-add v t1 t))))
  where
    left : n * (U + q) * W ≡ U * (n * W) + q * (n * W)
    left = ap (λ (m : ℕ). m * W) (mul_comm n (U + q)) ∙ mul_assoc (U + q) n W ∙ add-mul U q (n * W)

first-high : (U v q e n W t1 t : ℕ) → v * t1 ≡ U * (n * W) → v * t ≤ (q + e) * (n * W) → v * (t1 + t) ≤ n * (U + q + e) * W
first-high U v q e n W t1 t same h =
    le_trans (le_of_eq (mul-add v t1 t)) (le_trans (add-le-add (le_of_eq same) h) (le_of_eq right))
  where
    sum : U + (q + e) ≡ U + q + e
    sum = omega arith

    right : U * (n * W) + (q + e) * (n * W) ≡ n * (U + q + e) * W
    right = sym (add-mul U (q + e) (n * W)) ∙ ap (λ (m : ℕ). m * (n * W)) sum ∙ sym (mul_assoc (U + q + e) n W) ∙ ap (λ (m : ℕ). m * W) (mul_comm (U + q + e) n)

to_one : (n : ℕ) → n ^ 1 ≡ n
to_one n = pow-suc n 0 ∙ ap (λ (m : ℕ). m * n) (pow-zero n) ∙ one-mul n

-- ---- the sine: sin r / r in units of 2 ^ -30, times r, which is R units of 2 ^ -56
pub record SineNear (R : ℕ) : Type 0 where
  pub plus-low : R * sine_plus R * whole 31 (2 ^ 56) ≤ 2 ^ 86 * sine_added R (2 ^ 56)
  pub plus-high : 2 ^ 86 * sine_added R (2 ^ 56) ≤ R * (sine_plus R + 15) * whole 31 (2 ^ 56)
  pub minus-low : R * sine_minus R * whole 31 (2 ^ 56) ≤ 2 ^ 86 * sine_taken R (2 ^ 56)
  pub minus-high : 2 ^ 86 * sine_taken R (2 ^ 56) ≤ R * (sine_minus R + 15) * whole 31 (2 ^ 56)

-- a smaller error is below 15, and below 8
more_room : (n q e f W : ℕ) → e ≤ f → n * (q + e) * W ≤ n * (q + f) * W
more_room n q e f W h = mul-le-mul_right W (mul-le-mul_left n (add-le-add (le_refl q) h))

sine-first : (R : ℕ) → 2 ^ 86 * (R ^ 1 * (2 ^ 56) ^ 30 * (factorial 31 / factorial 1)) ≡ 2 ^ 30 * (R * whole 31 (2 ^ 56))
unfolding whole factorial
sine-first R = ap (λ (m : ℕ). 2 ^ 86 * (m * (2 ^ 56) ^ 30 * (factorial 31 / factorial 1))) (to_one R) ∙ regroup (2 ^ 30) (2 ^ 56) R ((2 ^ 56) ^ 30) (factorial 31)
  where
    regroup : (u a r b g : ℕ) → u * a * (r * b * g) ≡ u * (r * (a * b * g))
    regroup u a r b g = simp (mul_assoc, mul_left_comm)

pub sine-near : (R : ℕ) → R ≤ half → SineNear R
unfolding terms whole
sine-near R h =
    let p = sine-plus-side R h in
    let m = sine-minus-side R h in
    let W = whole 31 (2 ^ 56) in
    let q = fourth_of R * ladder (2 ^ 30) (fourth_of R) (5 ∷ 9 ∷ 13 ∷ 17 ∷ []) / 2 ^ 32 in
    let o = square_of R * ladder (2 ^ 30) (fourth_of R) (3 ∷ 7 ∷ 11 ∷ 15 ∷ []) / 2 ^ 32 in
    let t = terms 31 R (2 ^ 56) (5 ∷ 9 ∷ 13 ∷ 17 ∷ 21 ∷ 25 ∷ 29 ∷ []) in
    let pl : q * (R * W) ≤ 2 ^ 86 * t = subst (λ (n : ℕ). q * (n * W) ≤ 2 ^ 86 * t) (to_one R) p.low in
    let ph : 2 ^ 86 * t ≤ (q + 6) * (R * W) = subst (λ (n : ℕ). 2 ^ 86 * t ≤ (q + 6) * (n * W)) (to_one R) p.high in
    let ml : o * (R * W) ≤ 2 ^ 86 * sine_taken R (2 ^ 56) = subst (λ (n : ℕ). o * (n * W) ≤ 2 ^ 86 * sine_taken R (2 ^ 56)) (to_one R) m.low in
    let mh : 2 ^ 86 * sine_taken R (2 ^ 56) ≤ (o + 15) * (R * W) = subst (λ (n : ℕ). 2 ^ 86 * sine_taken R (2 ^ 56) ≤ (o + 15) * (n * W)) (to_one R) m.high in
    record {
      plus-low = first-low (2 ^ 30) (2 ^ 86) q R W (R ^ 1 * (2 ^ 56) ^ 30 * (factorial 31 / factorial 1)) t (sine-first R) pl;
      plus-high = le_trans (first-high (2 ^ 30) (2 ^ 86) q 6 R W (R ^ 1 * (2 ^ 56) ^ 30 * (factorial 31 / factorial 1)) t (sine-first R) ph) (more_room R (2 ^ 30 + q) 6 15 W (omega arith));
      minus-low = le_trans (le_of_eq (ap (λ (k : ℕ). R * k * W) (zero-add o) ∙ ap (λ (k : ℕ). k * W) (mul_comm R o) ∙ mul_assoc o R W)) ml;
      minus-high = le_trans mh (le_of_eq (sym (mul_assoc (o + 15) R W) ∙ ap (λ (k : ℕ). k * W) (mul_comm (o + 15) R) ∙ ap (λ (k : ℕ). R * (k + 15) * W) (sym (zero-add o))));
    }

-- ---- the cosine, in units of 2 ^ -28
pub record CosineNear (R : ℕ) : Type 0 where
  pub plus-low : cosine_plus R * whole 30 (2 ^ 56) ≤ 2 ^ 28 * cosine_added R (2 ^ 56)
  pub plus-high : 2 ^ 28 * cosine_added R (2 ^ 56) ≤ (cosine_plus R + 8) * whole 30 (2 ^ 56)
  pub minus-low : cosine_minus R * whole 30 (2 ^ 56) ≤ 2 ^ 28 * cosine_taken R (2 ^ 56)
  pub minus-high : 2 ^ 28 * cosine_taken R (2 ^ 56) ≤ (cosine_minus R + 8) * whole 30 (2 ^ 56)

cosine-first : (R : ℕ) → 2 ^ 28 * (R ^ 0 * (2 ^ 56) ^ 30 * (factorial 30 / factorial 0)) ≡ 2 ^ 28 * (1 * whole 30 (2 ^ 56))
unfolding whole factorial
cosine-first R = ap (λ (m : ℕ). 2 ^ 28 * (m * (2 ^ 56) ^ 30 * (factorial 30 / factorial 0))) (pow-zero R)

pub cosine-near : (R : ℕ) → R ≤ half → CosineNear R
unfolding terms whole
cosine-near R h =
    let p = cosine-plus-side R h in
    let m = cosine-minus-side R h in
    let W = whole 30 (2 ^ 56) in
    let q = fourth_of R * ladder (2 ^ 28) (fourth_of R) (4 ∷ 8 ∷ 12 ∷ 16 ∷ []) / 2 ^ 32 in
    let o = square_of R * ladder (2 ^ 28) (fourth_of R) (2 ∷ 6 ∷ 10 ∷ 14 ∷ 18 ∷ []) / 2 ^ 32 in
    let t1 = R ^ 0 * (2 ^ 56) ^ 30 * (factorial 30 / factorial 0) in
    let t = terms 30 R (2 ^ 56) (4 ∷ 8 ∷ 12 ∷ 16 ∷ 20 ∷ 24 ∷ 28 ∷ []) in
    let pl : q * (1 * W) ≤ 2 ^ 28 * t = subst (λ (n : ℕ). q * (n * W) ≤ 2 ^ 28 * t) (pow-zero R) p.low in
    let ph : 2 ^ 28 * t ≤ (q + 8) * (1 * W) = subst (λ (n : ℕ). 2 ^ 28 * t ≤ (q + 8) * (n * W)) (pow-zero R) p.high in
    let ml : o * (1 * W) ≤ 2 ^ 28 * cosine_taken R (2 ^ 56) = subst (λ (n : ℕ). o * (n * W) ≤ 2 ^ 28 * cosine_taken R (2 ^ 56)) (pow-zero R) m.low in
    let mh : 2 ^ 28 * cosine_taken R (2 ^ 56) ≤ (o + 7) * (1 * W) = subst (λ (n : ℕ). 2 ^ 28 * cosine_taken R (2 ^ 56) ≤ (o + 7) * (n * W)) (pow-zero R) m.high in
    record {
      plus-low = le_trans (le_of_eq (ap (λ (k : ℕ). k * W) (sym (one-mul (2 ^ 28 + q))))) (first-low (2 ^ 28) (2 ^ 28) q 1 W t1 t (cosine-first R) pl);
      plus-high = le_trans (first-high (2 ^ 28) (2 ^ 28) q 8 1 W t1 t (cosine-first R) ph) (le_of_eq (ap (λ (k : ℕ). k * W) (one-mul (2 ^ 28 + q + 8))));
      minus-low = le_trans (le_of_eq (ap (λ (k : ℕ). k * W) (zero-add o) ∙ ap (λ (k : ℕ). o * k) (sym (one-mul W)))) ml;
      minus-high = le_trans mh (le_trans (le_of_eq (ap (λ (k : ℕ). (o + 7) * k) (one-mul W))) (mul-le-mul_right W (eighth o)));
    }
  where
    eighth : (o : ℕ) → o + 7 ≤ 0 + o + 8
    eighth o = omega arith
