-- The bisection's answer passes the test, for every u and v that reach it. Between two neighbours where the miss changes sign the two misses come to at most 1618 · (u + v),
-- so that the smaller one is below 900 · (u + v). Assumes nothing.
use mathlib.Core.Path.{◌≡◌, refl, sym, ap, ◌∙◌, subst}
use mathlib.Core.Logic.{inl, inr}
use Prim.Native.Nat.{ℕ, ◌+◌, ◌*◌, ◌^◌, ◌≤◌, ◌<◌}
use native.Mathlib.Nat.{le_refl, le_trans, le_of_lt, lt_of_lt_of_le, eq-or-lt_of_le, mul-add, mul-le-mul_left, le-add_right}
use native.Mathlib.Omega.{arith}
use mathlib.Core.Bool.{Bool, true, false, cond}
use lib.Dec.{leb, ltb, eqb, lit≤}
use borrow.Author.Tests.{ltb-true, ltb-false, leb-true, leb-false, eqb-true, le-leb, lt-leb}
use Rattle.trig_rule.specs.Steps.{half, fixed_of}
use Rattle.atan2_rule.specs.Steps.{cosine_up, cosine_down, sine_up, sine_down, ahead, behind, passes, ahead_at, miss_at, climb, nearer, between_of, fallback_of, least, quarter, three_quarters, most}
use Rattle.atan2_rule.proofs.Sides.{cosine-up-mono, sine-up-mono, sine-down-mono, cosine-down-moves, sine-up-moves, sine-down-moves}
use Rattle.atan2_rule.proofs.Fixed.{fixed-mono, under-half, step-up, step-near}
use Rattle.atan2_rule.proofs.Search.{Held, climb-held, climb-from}
use Rattle.atan2_rule.proofs.Regions.{Settled, Forward, Region, right-region, steep-region, left-region}

-- bits below PI's whose angle passes
pub record Good (u v : ℕ) (right : Bool) (b : ℕ) : Type 0 where
  pub low : least ≤ b
  pub high : b ≤ most
  pub settled : Settled u v right (fixed_of b)
  pub forward : Forward u v right (fixed_of b)

-- ---- the two misses of neighbours
moved : (u v a b c d e f g h : ℕ) → a ≤ b → c ≤ d → e ≤ f + 1488 → g ≤ h + 1618 → u * a + v * c + (u * e + v * g) ≤ u * f + v * h + (u * b + v * d) + 1618 * (u + v)
moved u v a b c d e f g h p q r s =
    let p' : u * a ≤ u * b = mul-le-mul_left u p in
    let q' : v * c ≤ v * d = mul-le-mul_left v q in
    let r' : u * e ≤ u * (f + 1488) = mul-le-mul_left u r in
    let r'' : u * (f + 1488) ≡ u * f + u * 1488 = mul-add u f 1488 in
    let s' : v * g ≤ v * (h + 1618) = mul-le-mul_left v s in
    let s'' : v * (h + 1618) ≡ v * h + v * 1618 = mul-add v h 1618 in
    omega arith

both-misses : (u v : ℕ) (right : Bool) (R S : ℕ) → S ≤ half → R ≤ S → S ≤ R + 2 ^ 34 → ahead u v right R + behind u v right S ≤ behind u v right R + ahead u v right S + 1618 * (u + v)
unfolding ahead behind
both-misses u v true R S m l n =
    moved u v (cosine_up R) (cosine_up S) (sine_down R) (sine_down S) (cosine_down S) (cosine_down R) (sine_up S) (sine_up R) (cosine-up-mono R S l) (sine-down-mono R S l) (cosine-down-moves R S m l n) (sine-up-moves R S m l n)
both-misses u v false R S m l n =
    moved u v (cosine_up R) (cosine_up S) (sine_up R) (sine_up S) (cosine_down S) (cosine_down R) (sine_down S) (sine_down R) (cosine-up-mono R S l) (sine-up-mono R S l) (cosine-down-moves R S m l n) (sine-down-moves R S m l n)

-- ---- an answer between two ends
module _ (u v left : ℕ) where
  abbrev right : Bool
  right = eqb left 0

  ahead-there : (b : ℕ) → ahead_at u v left b ≡ true → behind u v (eqb left 0) (fixed_of b) ≤ ahead u v (eqb left 0) (fixed_of b)
  unfolding ahead_at
  ahead-there b h = leb-true (behind u v (eqb left 0) (fixed_of b)) (ahead u v (eqb left 0) (fixed_of b)) h

  behind-there : (b : ℕ) → ahead_at u v left b ≡ false → ahead u v (eqb left 0) (fixed_of b) < behind u v (eqb left 0) (fixed_of b)
  unfolding ahead_at
  behind-there b h = leb-false (behind u v (eqb left 0) (fixed_of b)) (ahead u v (eqb left 0) (fixed_of b)) h

  miss-ahead : (b : ℕ) → ahead_at u v left b ≡ true → miss_at u v left b + behind u v (eqb left 0) (fixed_of b) ≡ ahead u v (eqb left 0) (fixed_of b)
  unfolding miss_at
  miss-ahead b h = let k = ahead-there b h in simp (le-leb _ _ k) (omega arith)

  miss-behind : (b : ℕ) → ahead_at u v left b ≡ false → miss_at u v left b + ahead u v (eqb left 0) (fixed_of b) ≡ behind u v (eqb left 0) (fixed_of b)
  unfolding miss_at
  miss-behind b h = let k = behind-there b h in simp (lt-leb _ _ k) (omega arith)

  settled-ahead : (b : ℕ) → ahead_at u v left b ≡ true → miss_at u v left b ≤ 900 * (u + v) → Settled u v (eqb left 0) (fixed_of b)
  settled-ahead b h m = let k = ahead-there b h in let e = miss-ahead b h in record { above = omega arith; below = omega arith }

  settled-behind : (b : ℕ) → ahead_at u v left b ≡ false → miss_at u v left b ≤ 900 * (u + v) → Settled u v (eqb left 0) (fixed_of b)
  settled-behind b h m = let k = behind-there b h in let e = miss-behind b h in record { above = omega arith; below = omega arith }

  -- t is ahead and t + 1 is behind
  pair_small : (t : ℕ) → least ≤ t → t < most → ahead_at u v left t ≡ true → ahead_at u v left (t + 1) ≡ false → miss_at u v left t + miss_at u v left (t + 1) ≤ 1618 * (u + v)
  pair_small t l h a b =
      let p = miss-ahead t a in
      let q = miss-behind (t + 1) b in
      let r = both-misses u v (eqb left 0) (fixed_of t) (fixed_of (t + 1)) (under-half (t + 1) (le_trans l (le-add_right t 1)) (next h)) (step-up t l) (step-near t l h) in
      omega arith
    where
      next : t < most → t + 1 ≤ most
      next k = omega arith

  module _ (from to : ℕ) (low : least ≤ from) (order : from < to) (high : to ≤ most) (far : to ≤ from + 2 ^ 27) (region : Region u v (eqb left 0) (fixed_of from) (fixed_of to)) where
    good : (b : ℕ) → from ≤ b → b ≤ to → Settled u v (eqb left 0) (fixed_of b) → Good u v (eqb left 0) b
    good b l h s = record {
      low = le_trans low l;
      high = le_trans h high;
      settled = s;
      forward = region.forward (fixed_of b) (fixed-mono from b (wide low) l) (fixed-mono b to (wide (le_trans low l)) h) s;
    }
      where
        wide : {c : ℕ} → least ≤ c → 788529152 ≤ c
        wide k = le_trans (lit≤ tt) k

    nearer-good : (t : ℕ) → from ≤ t → t < to → ahead_at u v left t ≡ true → ahead_at u v left (t + 1) ≡ false → Good u v (eqb left 0) (nearer u v left t)
    nearer-good t l h a b = go (leb (miss_at u v left t) (miss_at u v left (t + 1))) refl
      where
        p : miss_at u v left t + miss_at u v left (t + 1) ≤ 1618 * (u + v)
        p = pair_small t (le_trans low l) (lt_of_lt_of_le h high) a b

        go : (c : Bool) → leb (miss_at u v left t) (miss_at u v left (t + 1)) ≡ c → Good u v (eqb left 0) (cond c t (t + 1))
        go true e = let k = leb-true (miss_at u v left t) (miss_at u v left (t + 1)) e in good t l (le_of_lt h) (settled-ahead t a (omega (arith, p)))
        go false e = let k = leb-false (miss_at u v left t) (miss_at u v left (t + 1)) e in good (t + 1) (le_trans l (le-add_right t 1)) (up h) (settled-behind (t + 1) b (omega (arith, p)))
          where
            up : t < to → t + 1 ≤ to
            up g = omega arith

    found-good : ahead_at u v left from ≡ true → ahead_at u v left to ≡ false → Good u v (eqb left 0) (nearer u v left (climb (ahead_at u v left) to 27 from))
    found-good a b =
        let t = climb (ahead_at u v left) to 27 from in
        let h : Held (ahead_at u v left) to 1 t = climb-held (ahead_at u v left) to 27 from (record { here = a; under = order; past = λ (g : from + 2 ^ 27 < to). absurd (none g) }) in
        nearer-good t (climb-from (ahead_at u v left) to 27 from) h.under h.here (after t h.under h.past)
      where
        none : from + 2 ^ 27 < to → ⊥
        none g = omega arith

        after : (t : ℕ) → t < to → (t + 1 < to → ahead_at u v left (t + 1) ≡ false) → ahead_at u v left (t + 1) ≡ false
        after t k past = elim (eq-or-lt_of_le (up k)) [
          | inl e ↦ ap (ahead_at u v left) e ∙ b
          | inr l ↦ past l
        ]
          where
            up : t < to → t + 1 ≤ to
            up g = omega arith

    pub between-good : Good u v (eqb left 0) (between_of u v left from to)
    unfolding between_of
    between-good = go (ahead_at u v left from) (ahead_at u v left to) refl refl
      where
        go : (a b : Bool) → ahead_at u v left from ≡ a → ahead_at u v left to ≡ b → Good u v (eqb left 0) (cond a (cond b to (nearer u v left (climb (ahead_at u v left) to 27 from))) from)
        go false b e f = good from (le_refl from) (le_of_lt order) (record { above = le_trans (le_of_lt (behind-there from e)) (le-add_right _ _); below = region.low })
        go true true e f = good to (le_of_lt order) (le_refl to) (record { above = region.high; below = le_trans (ahead-there to f) (le-add_right _ _) })
        go true false e f = found-good e f

-- ---- every pair that reaches the bisection
pub fallback-good : (u v left : ℕ) → 0 < u + v → (left ≡ 0 → v < 8192 * u) → Good u v (eqb left 0) (fallback_of u v left)
unfolding fallback_of
fallback-good u v left some wide = go (ltb v u) (eqb left 0) refl refl
  where
    positive : u ≤ v → 0 < v
    positive h = omega arith

    go : (s r : Bool) → ltb v u ≡ s → eqb left 0 ≡ r
        → Good u v (eqb left 0) (cond s (between_of u v left quarter three_quarters) (cond r (between_of u v left least quarter) (between_of u v left three_quarters most)))
    go true r e f = between-good u v left quarter three_quarters (lit≤ tt) (lit≤ tt) (lit≤ tt) (lit≤ tt) (steep-region u v (eqb left 0) (ltb-true v u e))
    go false true e f =
        between-good u v left least quarter (lit≤ tt) (lit≤ tt) (lit≤ tt) (lit≤ tt)
        (subst (λ (b : Bool). Region u v b (fixed_of least) (fixed_of quarter)) (sym f) (right-region u v (ltb-false v u e) (wide (eqb-true left 0 f))))
    go false false e f =
        between-good u v left three_quarters most (lit≤ tt) (lit≤ tt) (lit≤ tt) (lit≤ tt)
        (subst (λ (b : Bool). Region u v b (fixed_of three_quarters) (fixed_of most)) (sym f) (left-region u v (ltb-false v u e) (positive (ltb-false v u e))))

-- so the test itself says
pub good-passes : (u v left b : ℕ) → Good u v (eqb left 0) b → passes u v left b ≡ true
unfolding passes
good-passes u v left b g =
    simp (le-leb _ _ (under-half b g.low g.high), le-leb _ _ g.settled.above, le-leb _ _ g.settled.below, le-leb _ _ g.forward)
