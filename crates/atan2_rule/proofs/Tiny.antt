-- Below 2 ^ -12 the angle may be y / x itself, to within 2 ^ -22: the sine is then the angle and the cosine 1, each to within 2 ^ -22 more. Assumes nothing.
use mathlib.Core.Path.{◌≡◌, refl, sym, ap, ◌∙◌}
use Prim.Native.Nat.{ℕ, ◌+◌, ◌*◌, ◌^◌, ◌≤◌, ◌<◌}
use native.Mathlib.Nat.{le_trans, le_of_eq, lt_of_not-le, add-le-add, mul-add, add-mul, mul_comm, mul_assoc, mul_left_comm, mul-pos, mul-le-mul_left, mul-le-mul_right, le_of_mul-le-mul_left, mul-lt-mul_of_pos_right}
use native.Mathlib.Omega.{arith}
use mathlib.Core.Bool.{true, false}
use lib.Dec.{lit≤}
use Rattle.trig_rule.specs.Sums.{factorial, whole, sine_side, cosine_side}
use Rattle.trig_rule.proofs.Little.{sine-little, cosine-little}
use Rattle.atan2_rule.proofs.Pointed.{Kept}

-- a side (p - m) / w that is near C / D, times n and over both sides: v is w * z
module _ (C D e w z v p m n : ℕ) (both : w * z ≡ v) where
  over-above : C * w + D * m ≤ D * p + e * w → C * n * v + D * (n * m * z) ≤ D * (n * p * z) + e * n * v
  over-above h = le_trans (le_of_eq left) (le_trans (mul-le-mul_left (n * z) h) (le_of_eq right))
    where
      left : C * n * v + D * (n * m * z) ≡ n * z * (C * w + D * m)
      left = rw (← both) (simp (mul-add, mul_assoc, mul_comm, mul_left_comm))

      right : n * z * (D * p + e * w) ≡ D * (n * p * z) + e * n * v
      right = rw (← both) (simp (mul-add, mul_assoc, mul_comm, mul_left_comm))

  over_below : D * p ≤ C * w + D * m + e * w → D * (n * p * z) ≤ C * n * v + D * (n * m * z) + e * n * v
  over_below h = le_trans (le_of_eq left) (le_trans (mul-le-mul_left (n * z) h) (le_of_eq right))
    where
      left : D * (n * p * z) ≡ n * z * (D * p)
      left = simp (mul_assoc, mul_comm, mul_left_comm)

      right : n * z * (C * w + D * m + e * w) ≡ C * n * v + D * (n * m * z) + e * n * v
      right = rw (← both) (simp (mul-add, mul_assoc, mul_comm, mul_left_comm))

-- D is 2 ^ 149, e is 2 ^ 127 and k is 2 ^ 129. The cosine is (p - m) / w, the sine (a - b) / z, near 1 and near A / D
module _ (D e k Y X A w z p m a b : ℕ) (same : D ≡ k * 2 ^ 20) (twice : e + e ≤ k)
    (cosine-above : D * w + D * m ≤ D * p + e * w) (cosine-below : D * p ≤ D * w + D * m + e * w)
    (sine-above : A * z + D * b ≤ D * a + e * z) (sine-below : D * a ≤ A * z + D * b + e * z)
    (ratio-above : D * Y ≤ A * X + e * X) (ratio-below : A * X ≤ D * Y + e * X) where
  -- the products, over w * z
  cosine-above' : (n : ℕ) → D * n * (w * z) + D * (n * m * z) ≤ D * (n * p * z) + e * n * (w * z)
  cosine-above' n = over-above D D e w z (w * z) p m n refl cosine-above

  cosine-below' : (n : ℕ) → D * (n * p * z) ≤ D * n * (w * z) + D * (n * m * z) + e * n * (w * z)
  cosine-below' n = over_below D D e w z (w * z) p m n refl cosine-below

  sine-above' : (n : ℕ) → A * n * (w * z) + D * (n * b * w) ≤ D * (n * a * w) + e * n * (w * z)
  sine-above' n = over-above A D e z w (w * z) a b n (mul_comm z w) sine-above

  sine-below' : (n : ℕ) → D * (n * a * w) ≤ A * n * (w * z) + D * (n * b * w) + e * n * (w * z)
  sine-below' n = over_below A D e z w (w * z) a b n (mul_comm z w) sine-below

  ratio-above' : D * Y * (w * z) ≤ A * X * (w * z) + e * X * (w * z)
  ratio-above' = le_trans (mul-le-mul_right (w * z) ratio-above) (le_of_eq (add-mul (A * X) (e * X) (w * z)))

  ratio-below' : A * X * (w * z) ≤ D * Y * (w * z) + e * X * (w * z)
  ratio-below' = le_trans (mul-le-mul_right (w * z) ratio-below) (le_of_eq (add-mul (D * Y) (e * X) (w * z)))

  -- twice e times both sizes is at most k times them
  room : e * X * (w * z) + e * Y * (w * z) + (e * X * (w * z) + e * Y * (w * z)) ≤ k * ((X + Y) * (w * z))
  room = le_trans (le_of_eq (sum (e * X * (w * z)) (e * Y * (w * z)) once ∙ sym (add-mul e e ((X + Y) * (w * z))))) (mul-le-mul_right ((X + Y) * (w * z)) twice)
    where
      once : e * X * (w * z) + e * Y * (w * z) ≡ e * ((X + Y) * (w * z))
      once = sym (add-mul (e * X) (e * Y) (w * z)) ∙ ap (λ (x : ℕ). x * (w * z)) (sym (mul-add e X Y)) ∙ mul_assoc e (X + Y) (w * z)

      sum : (x y : ℕ) → x + y ≡ e * ((X + Y) * (w * z)) → x + y + (x + y) ≡ e * ((X + Y) * (w * z)) + e * ((X + Y) * (w * z))
      sum x y h = omega arith

  opened : (x y : ℕ) → k * (2 ^ 20 * (x + y)) ≡ D * x + D * y
  opened x y = sym (mul_assoc k (2 ^ 20) (x + y)) ∙ ap (λ (n : ℕ). n * (x + y)) (sym same) ∙ mul-add D x y

  close : (c d f g : ℕ) → 0 < k → D * c + D * d ≤ D * f + D * g + (e * X * (w * z) + e * Y * (w * z) + (e * X * (w * z) + e * Y * (w * z))) → 2 ^ 20 * (c + d) ≤ 2 ^ 20 * (f + g) + (X + Y) * (w * z)
  close c d f g pos h =
      le_of_mul-le-mul_left {k = k}
      (le_trans (le_of_eq (opened c d)) (le_trans h (le_trans (add-le-add (le_of_eq (sym (opened f g))) room) (le_of_eq (sym (mul-add k (2 ^ 20 * (f + g)) ((X + Y) * (w * z))))))))
      pos

  tiny-above : 0 < k → 2 ^ 20 * (Y * p * z + X * b * w) ≤ 2 ^ 20 * (Y * m * z + X * a * w) + (X + Y) * (w * z)
  tiny-above pos =
      close (Y * p * z) (X * b * w) (Y * m * z) (X * a * w) pos
      (let c = cosine-below' Y in
      let s = sine-above' X in
      let r = ratio-above' in
      omega arith)

  tiny-below : 0 < k → 2 ^ 20 * (Y * m * z + X * a * w) ≤ 2 ^ 20 * (Y * p * z + X * b * w) + (X + Y) * (w * z)
  tiny-below pos =
      close (Y * m * z) (X * a * w) (Y * p * z) (X * b * w) pos
      (let c = cosine-above' Y in
      let s = sine-below' X in
      let r = ratio-below' in
      omega arith)

  -- X is not below Y, and e is small against D
  tiny-forward : Y ≤ X → e + e < D → 0 < X → 0 < w * z → X * m * z + Y * b * w < X * p * z + Y * a * w
  tiny-forward h small pos_x pos_w =
      lt_of_not-le (λ (f : X * p * z + Y * a * w ≤ X * m * z + Y * b * w). none (mul-le-mul_left D f))
    where
      strict : (e + e) * (X * (w * z)) < D * (X * (w * z))
      strict = mul-lt-mul_of_pos_right small (mul-pos pos_x pos_w)

      none : D * (X * p * z + Y * a * w) ≤ D * (X * m * z + Y * b * w) → ⊥
      none g =
          let g1 : D * (X * p * z + Y * a * w) ≡ D * (X * p * z) + D * (Y * a * w) = mul-add D (X * p * z) (Y * a * w) in
          let g2 : D * (X * m * z + Y * b * w) ≡ D * (X * m * z) + D * (Y * b * w) = mul-add D (X * m * z) (Y * b * w) in
          let c = cosine-above' X in
          let s = sine-above' Y in
          let t = strict in
          let t1 : (e + e) * (X * (w * z)) ≡ e * X * (w * z) + e * X * (w * z) = add-mul e e (X * (w * z)) ∙ ap (λ (x : ℕ). x + x) (sym (mul_assoc e X (w * z))) in
          let t2 : D * (X * (w * z)) ≡ D * X * (w * z) = sym (mul_assoc D X (w * z)) in
          let y : e * Y * (w * z) ≤ e * X * (w * z) = mul-le-mul_right (w * z) (mul-le-mul_left e h) in
          omega arith

over-pos : 0 < whole 30 (2 ^ 149) * whole 31 (2 ^ 149)
unfolding whole factorial
over-pos = lit≤ tt

pub tiny-kept : (Y X A : ℕ) → A < 2 ^ 137 → 0 < X → Y ≤ X → 2 ^ 149 * Y ≤ A * X + 2 ^ 127 * X → A * X ≤ 2 ^ 149 * Y + 2 ^ 127 * X → Kept false false Y X A (2 ^ 149)
tiny-kept Y X A small pos order ra rb =
    let c = cosine-little A small in
    let s = sine-little A small in
    let D = 2 ^ 149 in
    let p = cosine_side true A D in
    let m = cosine_side false A D in
    let a = sine_side true A D in
    let b = sine_side false A D in
    let w = whole 30 D in
    let z = whole 31 D in
    record {
      above = tiny-above D (2 ^ 127) (2 ^ 129) Y X A w z p m a b refl (lit≤ tt) c.above c.below s.above s.below ra rb (lit≤ tt);
      below = tiny-below D (2 ^ 127) (2 ^ 129) Y X A w z p m a b refl (lit≤ tt) c.above c.below s.above s.below ra rb (lit≤ tt);
      forward = tiny-forward D (2 ^ 127) (2 ^ 129) Y X A w z p m a b refl (lit≤ tt) c.above c.below s.above s.below ra rb order (lit≤ tt) pos over-pos;
    }
