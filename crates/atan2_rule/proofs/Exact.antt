-- From the test on whole numbers to the exact sums at R / 2 ^ 56. In units of 2 ^ -30 a side by steps is at most 64 below its side of the sum, and u and v are cut from the sizes of y and x
-- by less than 1. Together that is 92 · 2^-30 · (u + v), so that the test's 900 keep the rule's 1024. Assumes nothing.
use mathlib.Core.Path.{◌≡◌, sym, ap, ◌∙◌}
use Prim.Native.Nat.{ℕ, suc, ◌+◌, ◌*◌, ◌/◌, ◌^◌, ◌≤◌, ◌<◌}
use native.Mathlib.Nat.{add-mul, mul-add, mul_comm, mul_assoc, mul_left_comm, mul_right_comm, one-mul, add-le-add, mul-le-mul_left, mul-le-mul_right, div-mul-le_self, mul-pos, mul-lt-mul_of_pos_left}
use native.Mathlib.Nat.{le_refl, le_trans, le_of_eq, le_of_lt, le_of_mul-le-mul_left, lt-div-mul-add, lt_of_lt_of_le, lt_of_le_of_lt, lt_of_not-le, not-le_of_lt}
use native.Mathlib.Omega.{arith}
use lib.Dec.{lit≤}
use Rattle.trig_rule.specs.Sums.{whole, sine_added, sine_taken, cosine_added, cosine_taken}
use Rattle.trig_rule.specs.Steps.{half, sine_plus, sine_minus, cosine_plus, cosine_minus}
use Rattle.trig_rule.proofs.Near.{sine-near, cosine-near}
use Rattle.atan2_rule.specs.Steps.{cosine_up, cosine_down, sine_up, sine_down}
use Rattle.atan2_rule.proofs.Sides.{sine-plus-most, sine-minus-most, cosine-up-most, cosine-down-most, sine-up-most, sine-down-most}

-- the side s by steps, in units of 2 ^ -30, against the side a / w of the sum
pub record Beside (s a w : ℕ) : Type 0 where
  pub low : s * w ≤ 2 ^ 30 * a
  pub high : 2 ^ 30 * a ≤ (s + 64) * w
  pub small : a ≤ 7 * w

beside : (s a w : ℕ) → s ≤ 7000000000 → s * w ≤ 2 ^ 30 * a → 2 ^ 30 * a ≤ (s + 64) * w → Beside s a w
beside s a w m l h =
    let k : (s + 64) * w ≤ 7516192768 * w = mul-le-mul_right w (omega arith) in
    record { low = l; high = h; small = le_of_mul-le-mul_left {k = 2 ^ 30} (le_trans h (le_trans k (le_of_eq (mul_assoc (2 ^ 30) 7 w)))) (omega arith) }

-- ---- the cosine's sides are four times those of units of 2 ^ -28
four-times : (q a w : ℕ) → 4 * q ≤ 7000000000 → q * w ≤ 2 ^ 28 * a → 2 ^ 28 * a ≤ (q + 8) * w → Beside (4 * q) a w
four-times q a w m l h =
    let l' : 4 * q * w ≡ 4 * (q * w) = mul_assoc 4 q w in
    let h' : (q + 8) * w ≡ q * w + 8 * w = add-mul q 8 w in
    let h'' : (4 * q + 64) * w ≡ 4 * q * w + 64 * w = add-mul (4 * q) 64 w in
    beside (4 * q) a w m (omega arith) (omega arith)

-- ---- the sine's sides are p · g, cut, with p the angle's first 32 digits and g the side over r
size_low : (R g : ℕ) → R / 2 ^ 26 * g / 2 ^ 30 * 2 ^ 56 ≤ R * g
size_low R g =
    let a : R / 2 ^ 26 * 2 ^ 26 * g ≤ R * g = mul-le-mul_right g (div-mul-le_self R (2 ^ 26)) in
    let b : R / 2 ^ 26 * 2 ^ 26 * g ≡ R / 2 ^ 26 * g * 2 ^ 26 = mul_right_comm (R / 2 ^ 26) (2 ^ 26) g in
    omega arith

size-high : (R g : ℕ) → R ≤ 2 ^ 58 → g ≤ 2 ^ 31 → R * (g + 15) ≤ (R / 2 ^ 26 * g / 2 ^ 30 + 64) * 2 ^ 56
size-high R g m h =
    let a : R * g ≤ (R / 2 ^ 26 * 2 ^ 26 + 2 ^ 26) * g = mul-le-mul_right g (le_of_lt (lt-div-mul-add {a = R} {b = 2 ^ 26} (omega arith))) in
    let b : (R / 2 ^ 26 * 2 ^ 26 + 2 ^ 26) * g ≡ R / 2 ^ 26 * g * 2 ^ 26 + 2 ^ 26 * g = add-mul (R / 2 ^ 26 * 2 ^ 26) (2 ^ 26) g ∙ ap (λ (x : ℕ). x + 2 ^ 26 * g) (mul_right_comm (R / 2 ^ 26) (2 ^ 26) g) in
    let c : R * (g + 15) ≡ R * g + R * 15 = mul-add R g 15 in
    omega arith

times-angle : (R g a w : ℕ) → R ≤ 2 ^ 58 → g ≤ 2 ^ 31 → R / 2 ^ 26 * g / 2 ^ 30 ≤ 7000000000 → R * g * w ≤ 2 ^ 86 * a → 2 ^ 86 * a ≤ R * (g + 15) * w → Beside (R / 2 ^ 26 * g / 2 ^ 30) a w
times-angle R g a w m k s l h =
    let c = R / 2 ^ 26 * g / 2 ^ 30 in
    beside c a w s
    (le_of_mul-le-mul_left {k = 2 ^ 56} (le_trans (le_of_eq (first c w)) (le_trans (mul-le-mul_right w (size_low R g)) (le_trans l (le_of_eq (mul_assoc (2 ^ 56) (2 ^ 30) a))))) (omega arith))
    (le_of_mul-le-mul_left {k = 2 ^ 56} (le_trans (le_of_eq (sym (mul_assoc (2 ^ 56) (2 ^ 30) a))) (le_trans h (le_trans (mul-le-mul_right w (size-high R g m k)) (le_of_eq (sym (first (c + 64) w)))))) (omega arith))
  where
    first : (c w : ℕ) → 2 ^ 56 * (c * w) ≡ c * 2 ^ 56 * w
    first c w = sym (mul_assoc (2 ^ 56) c w) ∙ ap (λ (x : ℕ). x * w) (mul_comm (2 ^ 56) c)

-- ---- the four sides
module _ (R : ℕ) (h : R ≤ half) where
  short : R ≤ 2 ^ 58
  short = le_trans h (lit≤ tt)

  pub cosine-up-beside : Beside (cosine_up R) (cosine_added R (2 ^ 56)) (whole 30 (2 ^ 56))
  cosine-up-beside = let n = cosine-near R h in four-times (cosine_plus R) (cosine_added R (2 ^ 56)) (whole 30 (2 ^ 56)) (le_trans (cosine-up-most R h) (lit≤ tt)) n.plus-low n.plus-high

  pub cosine-down-beside : Beside (cosine_down R) (cosine_taken R (2 ^ 56)) (whole 30 (2 ^ 56))
  cosine-down-beside = let n = cosine-near R h in four-times (cosine_minus R) (cosine_taken R (2 ^ 56)) (whole 30 (2 ^ 56)) (le_trans (cosine-down-most R h) (lit≤ tt)) n.minus-low n.minus-high

  pub sine-up-beside : Beside (sine_up R) (sine_added R (2 ^ 56)) (whole 31 (2 ^ 56))
  sine-up-beside = let n = sine-near R h in times-angle R (sine_plus R) (sine_added R (2 ^ 56)) (whole 31 (2 ^ 56)) short (le_trans (sine-plus-most R h) (lit≤ tt)) (le_trans (sine-up-most R h) (lit≤ tt)) n.plus-low n.plus-high

  pub sine-down-beside : Beside (sine_down R) (sine_taken R (2 ^ 56)) (whole 31 (2 ^ 56))
  sine-down-beside = let n = sine-near R h in times-angle R (sine_minus R) (sine_taken R (2 ^ 56)) (whole 31 (2 ^ 56)) short (le_trans (sine-minus-most R h) (lit≤ tt)) (le_trans (sine-down-most R h) (lit≤ tt)) n.minus-low n.minus-high

-- ---- u is y's size cut to a whole number of G / H
pub record Cut (u N G H : ℕ) : Type 0 where
  pub low : u * G ≤ N * H
  pub high : N * H ≤ (u + 1) * G

-- one term: n of cut u, times a side a / w over the other denominator z
term-high : (u n G H s a w z : ℕ) → Cut u n G H → Beside s a w → 2 ^ 30 * (H * (n * a * z)) ≤ G * (w * z) * (u * s + 64 * u + 7 * 2 ^ 30)
term-high u n G H s a w z c b =
    let p : 2 ^ 30 * (H * (n * a * z)) ≤ (u + 1) * G * (2 ^ 30 * a * z) = le_trans (le_of_eq front) (mul-le-mul_right (2 ^ 30 * a * z) c.high) in
    let q : u * (2 ^ 30 * a) + 2 ^ 30 * a ≤ u * ((s + 64) * w) + 2 ^ 30 * (7 * w) = add-le-add (mul-le-mul_left u b.high) (mul-le-mul_left (2 ^ 30) b.small) in
    le_trans p (le_trans (le_of_eq middle) (le_trans (mul-le-mul_left (G * z) q) (le_of_eq last)))
  where
    front : 2 ^ 30 * (H * (n * a * z)) ≡ n * H * (2 ^ 30 * a * z)
    front = simp (mul_assoc, mul_comm, mul_left_comm)

    middle : (u + 1) * G * (2 ^ 30 * a * z) ≡ G * z * (u * (2 ^ 30 * a) + 2 ^ 30 * a)
    middle = ap (λ (x : ℕ). x * (2 ^ 30 * a * z)) (add-mul u 1 G) ∙ ap (λ (x : ℕ). (u * G + x) * (2 ^ 30 * a * z)) (one-mul G) ∙ simp (mul-add, add-mul, mul_assoc, mul_comm, mul_left_comm)

    inner : u * ((s + 64) * w) + 2 ^ 30 * (7 * w) ≡ w * (u * s + 64 * u + 7 * 2 ^ 30)
    inner = simp (mul-add, add-mul, mul_left_comm) (omega arith)

    last : G * z * (u * ((s + 64) * w) + 2 ^ 30 * (7 * w)) ≡ G * (w * z) * (u * s + 64 * u + 7 * 2 ^ 30)
    last = ap (λ (x : ℕ). G * z * x) inner ∙ simp (mul_assoc, mul_left_comm)

term-low : (u n G H s a w z : ℕ) → Cut u n G H → Beside s a w → G * (w * z) * (u * s) ≤ 2 ^ 30 * (H * (n * a * z))
term-low u n G H s a w z c b =
    le_trans (le_of_eq front) (le_trans (mul-le-mul_left (u * G * z) b.low) (le_trans (le_of_eq middle) (le_trans (mul-le-mul_right (2 ^ 30 * a * z) c.low) (le_of_eq last))))
  where
    front : G * (w * z) * (u * s) ≡ u * G * z * (s * w)
    front = simp (mul_assoc, mul_comm, mul_left_comm)

    middle : u * G * z * (2 ^ 30 * a) ≡ u * G * (2 ^ 30 * a * z)
    middle = simp (mul_assoc, mul_comm, mul_left_comm)

    last : n * H * (2 ^ 30 * a * z) ≡ 2 ^ 30 * (H * (n * a * z))
    last = simp (mul_assoc, mul_comm, mul_left_comm)

-- two terms, the first over w and the second over z
module _ (u v n m G H w z : ℕ) (cu : Cut u n G H) (cv : Cut v m G H) where
  abbrev scale : ℕ
  scale = G * (w * z)

  both : (x y : ℕ) → 2 ^ 30 * (H * (x + y)) ≡ 2 ^ 30 * (H * x) + 2 ^ 30 * (H * y)
  both x y = ap (λ (k : ℕ). 2 ^ 30 * k) (mul-add H x y) ∙ mul-add (2 ^ 30) (H * x) (H * y)

  upper : (s t a b : ℕ) → 2 ^ 29 ≤ u + v → Beside s a w → Beside t b z → 2 ^ 30 * (H * (n * a * z + m * b * w)) ≤ G * (w * z) * (u * s + v * t + 92 * (u + v))
  upper s t a b large p q =
      le_trans (le_of_eq (both (n * a * z) (m * b * w)))
      (le_trans (add-le-add (term-high u n G H s a w z cu p) (le_trans (term-high v m G H t b z w cv q) (le_of_eq (ap (λ (k : ℕ). G * k * (v * t + 64 * v + 7 * 2 ^ 30)) (mul_comm z w)))))
      (le_trans (le_of_eq (sym (mul-add (G * (w * z)) (u * s + 64 * u + 7 * 2 ^ 30) (v * t + 64 * v + 7 * 2 ^ 30)))) (mul-le-mul_left (G * (w * z)) (sum (u * s) (v * t)))))
    where
      sum : (x y : ℕ) → x + 64 * u + 7 * 2 ^ 30 + (y + 64 * v + 7 * 2 ^ 30) ≤ x + y + 92 * (u + v)
      sum x y = omega arith

  lower : (s t a b : ℕ) → Beside s a w → Beside t b z → G * (w * z) * (u * s + v * t) ≤ 2 ^ 30 * (H * (n * a * z + m * b * w))
  lower s t a b p q =
      le_trans (le_of_eq (mul-add (G * (w * z)) (u * s) (v * t)))
      (le_trans (add-le-add (term-low u n G H s a w z cu p) (le_trans (le_of_eq (ap (λ (k : ℕ). G * k * (v * t)) (mul_comm w z))) (term-low v m G H t b z w cv q)))
      (le_of_eq (sym (both (n * a * z) (m * b * w)))))

  whole-cut : (u + v) * G ≤ (m + n) * H
  whole-cut =
      let a : (u + v) * G ≡ u * G + v * G = add-mul u v G in
      let b : (m + n) * H ≡ m * H + n * H = add-mul m n H in
      let c = cu.low in
      let d = cv.low in
      omega arith

  -- p and r are what the test has on its smaller side, q and s on the other
  pub residual : (p r q s a b c d : ℕ) → 0 < H → 2 ^ 29 ≤ u + v → Beside p a w → Beside r b z → Beside q c w → Beside s d z → u * p + v * r ≤ u * q + v * s + 900 * (u + v)
      → 2 ^ 20 * (n * a * z + m * b * w) ≤ 2 ^ 20 * (n * c * z + m * d * w) + (m + n) * (w * z)
  residual p r q s a b c d pos large ba bb bc bd t =
      let L = n * a * z + m * b * w in
      let Q = n * c * z + m * d * w in
      let k : u * p + v * r + 92 * (u + v) ≤ u * q + v * s + 1024 * (u + v) = omega arith in
      let up : 2 ^ 30 * (H * L) ≤ G * (w * z) * (u * q + v * s + 1024 * (u + v)) = le_trans (upper p r a b large ba bb) (mul-le-mul_left (G * (w * z)) k) in
      let e : G * (w * z) * (u * q + v * s + 1024 * (u + v)) ≡ G * (w * z) * (u * q + v * s) + 1024 * (w * z * ((u + v) * G)) =
      mul-add (G * (w * z)) (u * q + v * s) (1024 * (u + v)) ∙ ap (λ (x : ℕ). G * (w * z) * (u * q + v * s) + x) (turn G (w * z) (u + v)) in
      let low = lower q s c d bc bd in
      let cut : w * z * ((u + v) * G) ≤ w * z * ((m + n) * H) = mul-le-mul_left (w * z) whole-cut in
      let sum = le_trans up (le_trans (le_of_eq e) (add-le-add low (le_refl (1024 * (w * z * ((u + v) * G)))))) in
      let all = last (2 ^ 30 * (H * L)) (2 ^ 30 * (H * Q)) (w * z * ((u + v) * G)) (w * z * ((m + n) * H)) sum cut in
      le_of_mul-le-mul_left {k = 2 ^ 10 * H} (le_trans (le_of_eq (left L)) (le_trans all (le_of_eq (right Q)))) (mul-pos (lit≤ tt) pos)
    where
      turn : (g x y : ℕ) → g * x * (1024 * y) ≡ 1024 * (x * (y * g))
      turn g x y = simp (mul_assoc, mul_comm, mul_left_comm)

      left : (L : ℕ) → 2 ^ 10 * H * (2 ^ 20 * L) ≡ 2 ^ 30 * (H * L)
      left L = mul_assoc (2 ^ 10) H (2 ^ 20 * L) ∙ ap (λ (x : ℕ). 2 ^ 10 * x) (mul_left_comm H (2 ^ 20) L) ∙ sym (mul_assoc (2 ^ 10) (2 ^ 20) (H * L))

      right : (Q : ℕ) → 2 ^ 30 * (H * Q) + 1024 * (w * z * ((m + n) * H)) ≡ 2 ^ 10 * H * (2 ^ 20 * Q + (m + n) * (w * z))
      right Q = ap (λ (x : ℕ). x + 1024 * (w * z * ((m + n) * H))) (sym (left Q)) ∙ ap (λ (x : ℕ). 2 ^ 10 * H * (2 ^ 20 * Q) + x) (swap (w * z) (m + n)) ∙ sym (mul-add (2 ^ 10 * H) (2 ^ 20 * Q) ((m + n) * (w * z)))
        where
          swap : (x y : ℕ) → 1024 * (x * (y * H)) ≡ 1024 * H * (y * x)
          swap x y = simp (mul_assoc, mul_comm, mul_left_comm)

      last : (a b c d : ℕ) → a ≤ b + 1024 * c → c ≤ d → a ≤ b + 1024 * d
      last a b c d g h = omega arith

  -- q and s are what is added, p and r what is taken away
  pub pointing : (p r q s a b c d : ℕ) → 0 < H → 0 < G → 0 < w → 0 < z → 2 ^ 29 ≤ u + v → Beside p a w → Beside r b z → Beside q c w → Beside s d z → u * p + v * r + 900 * (u + v) ≤ u * q + v * s
      → n * a * z + m * b * w < n * c * z + m * d * w
  pointing p r q s a b c d pos_h pos_g posw posz large ba bb bc bd t =
      let L = n * a * z + m * b * w in
      let Q = n * c * z + m * d * w in
      let k : suc (u * p + v * r + 92 * (u + v)) ≤ u * q + v * s = omega arith in
      let up = upper p r a b large ba bb in
      let strict : G * (w * z) * (u * p + v * r + 92 * (u + v)) < G * (w * z) * (u * q + v * s) = mul-lt-mul_of_pos_left k (mul-pos pos_g (mul-pos posw posz)) in
      let g : 2 ^ 30 * (H * L) < 2 ^ 30 * (H * Q) = lt_of_lt_of_le (lt_of_le_of_lt up strict) (lower q s c d bc bd) in
      lt_of_not-le (λ (f : Q ≤ L). not-le_of_lt g (mul-le-mul_left (2 ^ 30) (mul-le-mul_left H f)))
