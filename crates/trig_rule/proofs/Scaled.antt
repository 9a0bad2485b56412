-- A sum is the same whatever the unit: numerator and denominator of the angle times c, and each side and the whole times c ^ N. Assumes nothing.
use mathlib.Core.Path.{◌≡◌, sym, ap, ◌∙◌, subst}
use Prim.Native.Nat.{ℕ, zero, suc, ◌+◌, ◌-◌, ◌*◌, ◌/◌, ◌^◌, ◌≤◌}
use native.Mathlib.Nat.{le_trans, le_of_eq, mul_assoc, mul_comm, mul_left_comm, mul-mul-mul_comm, mul-add, mul-zero, mul-le-mul_left, pow-zero, pow-suc}
use native.Mathlib.Omega.{arith}
use mathlib.Core.List.{List, [], ◌∷◌}
use mathlib.Core.Bool.{Bool, true, false, not}
use lib.Dec.{T, leb, leb→le}
use lib.Pow.{pow-add}
use lib.Ieee.Fits.{and_l, and_r}
use Rattle.trig_rule.specs.Sums.{factorial, term, terms, whole, sine_side, cosine_side}
use Rattle.trig_rule.specs.Rule.{tolerance, Within}
use Rattle.trig_rule.proofs.Ladder.{up_to}

pub pow-product : (c n j : ℕ) → (c * n) ^ j ≡ c ^ j * n ^ j
pow-product c n zero = pow-zero (c * n) ∙ sym (ap (λ (m : ℕ). m * n ^ 0) (pow-zero c) ∙ ap (λ (m : ℕ). 1 * m) (pow-zero n))
pow-product c n (suc j) =
    pow-suc (c * n) j ∙ ap (λ (m : ℕ). m * (c * n)) (pow-product c n j) ∙ mul-mul-mul_comm (c ^ j) (n ^ j) c n ∙ ap (λ (m : ℕ). m * (n ^ j * n)) (sym (pow-suc c j)) ∙ ap (λ (m : ℕ). c ^ suc j * m) (sym (pow-suc n j))

term-scaled : (N c n d j : ℕ) → j ≤ N → term N (c * n) (c * d) j ≡ c ^ N * term N n d j
term-scaled N c n d j h =
    let g = factorial N / factorial j in
    ap (λ (m : ℕ). m * (c * d) ^ (N - j) * g) (pow-product c n j)
    ∙ ap (λ (m : ℕ). c ^ j * n ^ j * m * g) (pow-product c d (N - j))
    ∙ regroup (c ^ j) (n ^ j) (c ^ (N - j)) (d ^ (N - j)) g
    ∙ ap (λ (m : ℕ). m * (n ^ j * d ^ (N - j) * g)) (sym (pow-add c j (N - j)) ∙ ap (λ (m : ℕ). c ^ m) back)
  where
    regroup : (a b x y g : ℕ) → a * b * (x * y) * g ≡ a * x * (b * y * g)
    regroup a b x y g = simp (mul_assoc, mul_left_comm)

    back : j + (N - j) ≡ N
    back = omega arith

pub terms-scaled : (N c n d : ℕ) (js : List ℕ) → T (up_to N js) → terms N (c * n) (c * d) js ≡ c ^ N * terms N n d js
unfolding terms up_to
terms-scaled N c n d [] t = sym (mul-zero (c ^ N))
terms-scaled N c n d (j ∷ js) t =
    ap (λ (m : ℕ). m + terms N (c * n) (c * d) js) (term-scaled N c n d j (leb→le j N (and_l (leb j N) (up_to N js) t)))
    ∙ ap (λ (m : ℕ). c ^ N * term N n d j + m) (terms-scaled N c n d js (and_r (leb j N) (up_to N js) t))
    ∙ sym (mul-add (c ^ N) (term N n d j) (terms N n d js))

pub whole_scaled : (N c d : ℕ) → whole N (c * d) ≡ c ^ N * whole N d
unfolding whole
whole_scaled N c d = ap (λ (m : ℕ). m * factorial N) (pow-product c d N) ∙ mul_assoc (c ^ N) (d ^ N) (factorial N)

-- ---- from units of 2 ^ -56 to units of 2 ^ -149
pub sine-side-scaled : (b : Bool) (R : ℕ) → sine_side b (R * 2 ^ 93) (2 ^ 149) ≡ (2 ^ 93) ^ 31 * sine_side b R (2 ^ 56)
unfolding up_to
sine-side-scaled true R = ap (λ (n : ℕ). sine_side true n (2 ^ 149)) (mul_comm R (2 ^ 93)) ∙ terms-scaled 31 (2 ^ 93) R (2 ^ 56) (1 ∷ 5 ∷ 9 ∷ 13 ∷ 17 ∷ 21 ∷ 25 ∷ 29 ∷ []) tt
sine-side-scaled false R = ap (λ (n : ℕ). sine_side false n (2 ^ 149)) (mul_comm R (2 ^ 93)) ∙ terms-scaled 31 (2 ^ 93) R (2 ^ 56) (3 ∷ 7 ∷ 11 ∷ 15 ∷ 19 ∷ 23 ∷ 27 ∷ 31 ∷ []) tt

pub cosine-side-scaled : (b : Bool) (R : ℕ) → cosine_side b (R * 2 ^ 93) (2 ^ 149) ≡ (2 ^ 93) ^ 30 * cosine_side b R (2 ^ 56)
unfolding up_to
cosine-side-scaled true R = ap (λ (n : ℕ). cosine_side true n (2 ^ 149)) (mul_comm R (2 ^ 93)) ∙ terms-scaled 30 (2 ^ 93) R (2 ^ 56) (0 ∷ 4 ∷ 8 ∷ 12 ∷ 16 ∷ 20 ∷ 24 ∷ 28 ∷ []) tt
cosine-side-scaled false R = ap (λ (n : ℕ). cosine_side false n (2 ^ 149)) (mul_comm R (2 ^ 93)) ∙ terms-scaled 30 (2 ^ 93) R (2 ^ 56) (2 ∷ 6 ∷ 10 ∷ 14 ∷ 18 ∷ 22 ∷ 26 ∷ 30 ∷ []) tt

module _ (k m a t w : ℕ) (h : Within m a t w) where
  scaled-left : k * (m * w + 2 ^ 149 * t) ≡ m * (k * w) + 2 ^ 149 * (k * t)
  scaled-left = mul-add k (m * w) (2 ^ 149 * t) ∙ ap (λ (n : ℕ). n + k * (2 ^ 149 * t)) (mul_left_comm k m w) ∙ ap (λ (n : ℕ). m * (k * w) + n) (mul_left_comm k (2 ^ 149) t)

  scaled-above : k * (2 ^ 149 * a + tolerance * w) ≡ 2 ^ 149 * (k * a) + tolerance * (k * w)
  scaled-above =
      mul-add k (2 ^ 149 * a) (tolerance * w) ∙ ap (λ (n : ℕ). n + k * (tolerance * w)) (mul_left_comm k (2 ^ 149) a)
      ∙ ap (λ (n : ℕ). 2 ^ 149 * (k * a) + n) (mul_left_comm k (tolerance) w)

  scaled-below : k * (m * w + 2 ^ 149 * t + tolerance * w) ≡ m * (k * w) + 2 ^ 149 * (k * t) + tolerance * (k * w)
  scaled-below =
      mul-add k (m * w + 2 ^ 149 * t) (tolerance * w) ∙ ap (λ (n : ℕ). n + k * (tolerance * w)) scaled-left
      ∙ ap (λ (n : ℕ). m * (k * w) + 2 ^ 149 * (k * t) + n) (mul_left_comm k (tolerance) w)

  pub within-scaled : Within m (k * a) (k * t) (k * w)
  within-scaled =
      record {
        above = le_trans (le_of_eq (sym scaled-left)) (le_trans (mul-le-mul_left k h.above) (le_of_eq scaled-above));
        below = le_trans (le_of_eq (mul_left_comm (2 ^ 149) k a)) (le_trans (mul-le-mul_left k h.below) (le_of_eq scaled-below));
      }

pub sine-rescaled : (m R : ℕ) (b : Bool) → Within m (sine_side b R (2 ^ 56)) (sine_side (not b) R (2 ^ 56)) (whole 31 (2 ^ 56))
    → Within m (sine_side b (R * 2 ^ 93) (2 ^ 149)) (sine_side (not b) (R * 2 ^ 93) (2 ^ 149)) (whole 31 (2 ^ 149))
sine-rescaled m R b h =
    subst (λ (a : ℕ). Within m a (sine_side (not b) (R * 2 ^ 93) (2 ^ 149)) (whole 31 (2 ^ 149))) (sym (sine-side-scaled b R))
    (subst (λ (t : ℕ). Within m ((2 ^ 93) ^ 31 * sine_side b R (2 ^ 56)) t (whole 31 (2 ^ 149))) (sym (sine-side-scaled (not b) R))
    (subst (λ (w : ℕ). Within m ((2 ^ 93) ^ 31 * sine_side b R (2 ^ 56)) ((2 ^ 93) ^ 31 * sine_side (not b) R (2 ^ 56)) w) (sym (whole_scaled 31 (2 ^ 93) (2 ^ 56)))
    (within-scaled ((2 ^ 93) ^ 31) m (sine_side b R (2 ^ 56)) (sine_side (not b) R (2 ^ 56)) (whole 31 (2 ^ 56)) h)))

pub cosine-rescaled : (m R : ℕ) (b : Bool) → Within m (cosine_side b R (2 ^ 56)) (cosine_side (not b) R (2 ^ 56)) (whole 30 (2 ^ 56))
    → Within m (cosine_side b (R * 2 ^ 93) (2 ^ 149)) (cosine_side (not b) (R * 2 ^ 93) (2 ^ 149)) (whole 30 (2 ^ 149))
cosine-rescaled m R b h =
    subst (λ (a : ℕ). Within m a (cosine_side (not b) (R * 2 ^ 93) (2 ^ 149)) (whole 30 (2 ^ 149))) (sym (cosine-side-scaled b R))
    (subst (λ (t : ℕ). Within m ((2 ^ 93) ^ 30 * cosine_side b R (2 ^ 56)) t (whole 30 (2 ^ 149))) (sym (cosine-side-scaled (not b) R))
    (subst (λ (w : ℕ). Within m ((2 ^ 93) ^ 30 * cosine_side b R (2 ^ 56)) ((2 ^ 93) ^ 30 * cosine_side (not b) R (2 ^ 56)) w) (sym (whole_scaled 30 (2 ^ 93) (2 ^ 56)))
    (within-scaled ((2 ^ 93) ^ 30) m (cosine_side b R (2 ^ 56)) (cosine_side (not b) R (2 ^ 56)) (whole 30 (2 ^ 56)) h)))
