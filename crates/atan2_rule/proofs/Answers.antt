-- The answer by steps keeps the rule: bits that pass the test, the guess or the bisection's; the quotient of a tiny angle; and y on the axis. Assumes nothing.
use mathlib.Core.Path.{◌≡◌, refl, sym, ap, ◌∙◌, subst}
use Prim.Native.Nat.{ℕ, zero, suc, ◌+◌, ◌-◌, ◌*◌, ◌/◌, ◌%◌, ◌^◌, ◌≤◌, ◌<◌}
use native.Mathlib.Nat.{le_refl, le_trans, le_of_eq, le_of_lt, lt_of_lt_of_le, lt_of_le_of_lt, zero-mul, mul_assoc, mul_comm, mul_right_comm, mul-pos, mul-le-mul_right, le_of_mul-le-mul_left}
use native.Mathlib.Omega.{arith}
use mathlib.Core.Bool.{Bool, true, false, not, cond}
use lib.Dec.{leb, ltb, eqb, lit≤}
use lib.Pow.{pow_pos, pow-add}
use lib.Ieee.{Float, binary32, binary64, to_bits, of_bits, is_nan, div}
use borrow.Author.Tests.{ltb-false, leb-true, leb-false, le-leb, lt-leb}
use Rattle.floats.specs.Patterns.{hidden, sign_place, narrow_step, narrow_half}
use Rattle.trig_rule.specs.Reduction.{turn, Reduced}
use Rattle.trig_rule.specs.Rule.{Is}
use Rattle.trig_rule.specs.Sums.{factorial}
use Rattle.trig_rule.specs.Steps.{half, fixed_of, turns_of, rest_of, ladder}
use Rattle.trig_rule.proofs.Patterns.{bit, with-sign, normal-value}
use Rattle.trig_rule.proofs.Turns.{reduced}
use Rattle.trig_rule.proofs.Little.{little-reduced}
use Rattle.atan2_rule.specs.Rule.{pi_units, Atan2Rule}
use Rattle.atan2_rule.specs.Steps.{sine_up, sine_down, along, against, passes_at, passes, pi_bits, narrowed, near_of, guess_of, least, fallback_of, angle_bits, tiny}
use Rattle.atan2_rule.proofs.Fixed.{fixed-mono}
use Rattle.atan2_rule.proofs.Regions.{Ends, ahead-right, behind-right, carry}
use Rattle.atan2_rule.proofs.Fallback.{Good, fallback-good, good-passes}
use Rattle.atan2_rule.proofs.Exact.{Cut}
use Rattle.atan2_rule.proofs.Pointed.{Passed, passed, kept, kept-scaled, points}
use Rattle.atan2_rule.proofs.Sizes.{Pair}
use Rattle.atan2_rule.proofs.Tiny.{tiny-kept}
use Rattle.atan2_rule.proofs.Quotient.{divided}

-- ---- the angle that bits from 2 ^ -33 up to PI's stand for
module _ (b : ℕ) (low : least ≤ b) (high : b ≤ pi_bits) where
  wide : 788529152 ≤ b
  wide = le_trans (lit≤ tt) low

  pub angle-value : Is (of_bits binary32 b) false (fixed_of b * 2 ^ 93)
  angle-value = subst (λ (n : ℕ). Is (of_bits binary32 b) false n) value (normal-value b (le_trans (lit≤ tt) low) (lt_of_le_of_lt high (lit≤ tt)))
    where
      split : b / hidden - 1 ≡ b / hidden - 94 + 93
      split = let h = wide in omega arith

      value : (b % hidden + hidden) * 2 ^ (b / hidden - 1) ≡ fixed_of b * 2 ^ 93
      value = ap (λ (k : ℕ). (b % hidden + hidden) * 2 ^ k) split ∙ ap (λ (n : ℕ). (b % hidden + hidden) * n) (pow-add 2 (b / hidden - 94) 93) ∙ sym (mul_assoc (b % hidden + hidden) (2 ^ (b / hidden - 94)) (2 ^ 93))

  pub signed-value : (p : Bool) → Is (of_bits binary32 (bit p * sign_place + b)) p (fixed_of b * 2 ^ 93)
  signed-value p = with-sign p b (fixed_of b * 2 ^ 93) (lt_of_le_of_lt high (lit≤ tt)) angle-value

  pub angle-range : fixed_of b * 2 ^ 93 ≤ pi_units
  angle-range = le_trans (mul-le-mul_right (2 ^ 93) (fixed-mono b pi_bits wide high)) (lit≤ tt)

  under-turn : fixed_of b < turn
  under-turn = lt_of_le_of_lt (fixed-mono b pi_bits wide high) (lit≤ tt)

-- ---- the reduction up to a turn
straight : (x : ℕ) → x ≤ half → Reduced (x * 2 ^ 93) (x * 2 ^ 93) false
straight x h =
    subst (λ (r : ℕ). Reduced (x * 2 ^ 93) (r * 2 ^ 93) false) rest
    (subst (λ (t : Bool). Reduced (x * 2 ^ 93) (rest_of x * 2 ^ 93) (not t)) test (reduced x))
  where
    none : turns_of x ≡ 0
    none = omega arith

    test : leb (turns_of x) x ≡ true
    test = le-leb (turns_of x) x (le_trans (le_of_eq none) (omega arith))

    rest : rest_of x ≡ x
    rest = simp test (let n = none in omega arith)

flipped : (x : ℕ) → half < x → x < turn → Reduced (x * 2 ^ 93) ((turn - x) * 2 ^ 93) true
flipped x h k =
    subst (λ (r : ℕ). Reduced (x * 2 ^ 93) (r * 2 ^ 93) true) rest
    (subst (λ (t : Bool). Reduced (x * 2 ^ 93) (rest_of x * 2 ^ 93) (not t)) test (reduced x))
  where
    one : turns_of x ≡ turn
    one = omega arith

    test : leb (turns_of x) x ≡ false
    test = lt-leb (turns_of x) x (lt_of_lt_of_le k (le_of_eq (sym one)))

    rest : rest_of x ≡ turn - x
    rest = simp test (let n = one in omega arith)

-- ---- bits that pass the test
module _ (y x : Float) (p q : Bool) (Y X u v : ℕ) (hy : Is y p Y) (hx : Is x q X) (pr : Pair Y X u v) where
  pub made : (b R : ℕ) (f : Bool) → least ≤ b → b ≤ pi_bits → R ≤ half → Reduced (fixed_of b * 2 ^ 93) (R * 2 ^ 93) f → Passed u v q f R → Atan2Rule y x (of_bits binary32 (bit p * sign_place + b))
  made b R f low high m red t = record {
    minus = p;
    rise = Y;
    ordinate = hy;
    left = q;
    run = X;
    abscissa = hx;
    size = fixed_of b * 2 ^ 93;
    angle = signed-value b low high p;
    range = angle-range b low high;
    rest = R * 2 ^ 93;
    below = f;
    reduced = red;
    points = points q f Y X (R * 2 ^ 93) (kept-scaled q f Y X R (kept u v Y X pr.scale (2 ^ 925) R m pr.rise pr.run (pow_pos 925) pr.scale-pos pr.large q f t)) p;
  }

  pub passing-rule : (b : ℕ) → least ≤ b → b ≤ pi_bits → passes u v (bit q) b ≡ true → Atan2Rule y x (of_bits binary32 (bit p * sign_place + b))
  unfolding passes
  passing-rule b low high h = go (leb (fixed_of b) half) refl h
    where
      go : (t : Bool) → leb (fixed_of b) half ≡ t → cond t (passes_at u v (bit q) 0 (fixed_of b)) (passes_at u v (bit q) 1 (turn - fixed_of b)) ≡ true → Atan2Rule y x (of_bits binary32 (bit p * sign_place + b))
      go true e k = let m = leb-true (fixed_of b) half e in made b (fixed_of b) false low high m (straight (fixed_of b) m) (passed u v q false (fixed_of b) k)
      go false e k =
          let m = leb-false (fixed_of b) half e in
          let l = under-turn b low high in
          made b (turn - fixed_of b) true low high (rest m) (flipped (fixed_of b) m l) (passed u v q true (turn - fixed_of b) k)
        where
          rest : half < fixed_of b → turn - fixed_of b ≤ half
          rest m = omega arith

-- ---- the guess is in range, whatever the f64 operations gave
narrowed-range : (b : ℕ) → (least ≤ narrowed b) × (narrowed b ≤ pi_bits)
narrowed-range b = go (ltb b 4544132024016830464) (ltb 4614256656748904448 b) refl refl
  where
    go : (s t : Bool) → ltb b 4544132024016830464 ≡ s → ltb 4614256656748904448 b ≡ t
        → (least ≤ cond s pi_bits (cond t pi_bits ((b - 4035225266123964416 + narrow_half) / narrow_step))) × (cond s pi_bits (cond t pi_bits ((b - 4035225266123964416 + narrow_half) / narrow_step)) ≤ pi_bits)
    go true t e f = (lit≤ tt, lit≤ tt)
    go false true e f = (lit≤ tt, lit≤ tt)
    go false false e f = let l = ltb-false b 4544132024016830464 e in let h = ltb-false 4614256656748904448 b f in omega arith

near-range : (g : Float) → (least ≤ near_of g) × (near_of g ≤ pi_bits)
unfolding near_of
near-range g = go (is_nan g)
  where
    go : (t : Bool) → (least ≤ cond t pi_bits (narrowed (to_bits binary64 g))) × (cond t pi_bits (narrowed (to_bits binary64 g)) ≤ pi_bits)
    go true = (lit≤ tt, lit≤ tt)
    go false = narrowed-range (to_bits binary64 g)

pub guess-range : (a b : ℕ) (steep : Bool) (left : ℕ) → (least ≤ guess_of a b steep left) × (guess_of a b steep left ≤ pi_bits)
unfolding guess_of
guess-range a b steep left = near-range _

-- ---- the guess or the bisection's answer
not-tiny : (u v : ℕ) (q : Bool) → tiny u v (bit q) ≡ false → bit q ≡ 0 → v < 8192 * u
not-tiny u v false h e = let k = leb-false (u * 8192 + 0 * 2 ^ 30) v h in omega arith
not-tiny u v true h e = omega arith

module _ (y x : Float) (p q : Bool) (Y X u v : ℕ) (hy : Is y p Y) (hx : Is x q X) (pr : Pair Y X u v) where
  pub slanted-rule : (g : ℕ) → least ≤ g → g ≤ pi_bits → tiny u v (bit q) ≡ false → Atan2Rule y x (of_bits binary32 (bit p * sign_place + angle_bits u v (bit q) g))
  slanted-rule g low high far = go (passes u v (bit q) g) refl
    where
      good : Good u v (eqb (bit q) 0) (fallback_of u v (bit q))
      good = fallback-good u v (bit q) (lt_of_lt_of_le (lit≤ tt) pr.large) (not-tiny u v q far)

      go : (t : Bool) → passes u v (bit q) g ≡ t → Atan2Rule y x (of_bits binary32 (bit p * sign_place + cond t g (fallback_of u v (bit q))))
      go true e = passing-rule y x p q Y X u v hy hx pr g low high e
      go false e = passing-rule y x p q Y X u v hy hx pr (fallback_of u v (bit q)) good.low (le_trans good.high (lit≤ tt)) (good-passes u v (bit q) (fallback_of u v (bit q)) good)

-- ---- a tiny angle
flat-of : (Y X u v G H : ℕ) → 0 < H → Cut u Y G H → Cut v X G H → 2 ^ 29 ≤ u + v → u * 8192 ≤ v → Y * 2 ^ 29 ≤ X * 65538
flat-of Y X u v G H pos cy cx large t =
    le_of_mul-le-mul_left {k = H}
    (le_trans (le_of_eq (mul-left-comm' H Y (2 ^ 29)))
    (le_trans (mul-le-mul_right (2 ^ 29) cy.high)
    (le_trans (le_of_eq (mul_right_comm (u + 1) G (2 ^ 29)))
    (le_trans (mul-le-mul_right G few)
    (le_trans (le_of_eq (mul_right_comm v 65538 G))
    (le_trans (mul-le-mul_right 65538 cx.low) (le_of_eq (sym (mul-left-comm' H X 65538)))))))))
    pos
  where
    mul-left-comm' : (h n k : ℕ) → h * (n * k) ≡ n * h * k
    mul-left-comm' h n k = sym (mul_assoc h n k) ∙ ap (λ (a : ℕ). a * k) (mul_comm h n)

    few : (u + 1) * 2 ^ 29 ≤ v * 65538
    few = omega arith

some-run : (X v G H : ℕ) → 0 < G → Cut v X G H → 0 < v → 0 < X
some-run zero v G H pos c h = absurd (none (lt_of_lt_of_le (mul-pos h pos) (le_trans c.low (le_of_eq (zero-mul H)))))
  where
    none : 0 < 0 → ⊥
    none z = omega arith
some-run (suc X) v G H pos c h = omega arith

flat-order : (Y X : ℕ) → Y * 2 ^ 29 ≤ X * 65538 → Y ≤ X
flat-order Y X h = omega arith

pub small-rule : (y x a : Float) (p : Bool) (Y X A : ℕ) → Is y p Y → Is x false X → Is a p A → A < 2 ^ 137 → 0 < X → Y ≤ X → 2 ^ 149 * Y ≤ A * X + 2 ^ 127 * X → A * X ≤ 2 ^ 149 * Y + 2 ^ 127 * X → Atan2Rule y x a
small-rule y x a p Y X A hy hx ha small pos order ra rb = record {
  minus = p;
  rise = Y;
  ordinate = hy;
  left = false;
  run = X;
  abscissa = hx;
  size = A;
  angle = ha;
  range = le_trans (le_of_lt small) (lit≤ tt);
  rest = A;
  below = false;
  reduced = little-reduced A small;
  points = points false false Y X A (tiny-kept Y X A small pos order ra rb) p;
}

pub tiny-rule : (y x : Float) (p : Bool) (Y X u v : ℕ) → Is y p Y → Is x false X → Pair Y X u v → u * 8192 ≤ v → Atan2Rule y x (div binary32 y x)
tiny-rule y x p Y X u v hy hx pr t =
    let flat = flat-of Y X u v pr.scale (2 ^ 925) (pow_pos 925) pr.rise pr.run pr.large t in
    let pos = some-run X v pr.scale (2 ^ 925) pr.scale-pos pr.run (positive pr.large) in
    let d = divided y x p Y X hy hx pos flat in
    small-rule y x (div binary32 y x) p Y X d.units hy hx d.value d.small pos (flat-order Y X flat) d.above d.below
  where
    positive : 2 ^ 29 ≤ u + v → 0 < v
    positive h = omega arith

-- ---- y on the axis, x below 0: PI itself
at-pi : Ends (turn - fixed_of pi_bits) 5686511060 6760252892 6200181727 6200181607
unfolding ladder factorial
at-pi = record { cosine-up = refl; cosine-down = refl; sine-up = refl; sine-down = refl }

along-pi : (v : ℕ) → along 0 v false false (turn - fixed_of pi_bits) ≡ v * 6760252892 + 0 * 6200181607
unfolding along
along-pi v = ap (λ (n : ℕ). v * n + 0 * sine_down (turn - fixed_of pi_bits)) at-pi.cosine-down ∙ ap (λ (n : ℕ). v * 6760252892 + 0 * n) at-pi.sine-down

against-pi : (v : ℕ) → against 0 v false false (turn - fixed_of pi_bits) ≡ v * 5686511060 + 0 * 6200181727
unfolding against
against-pi v = ap (λ (n : ℕ). v * n + 0 * sine_up (turn - fixed_of pi_bits)) at-pi.cosine-up ∙ ap (λ (n : ℕ). v * 5686511060 + 0 * n) at-pi.sine-up

pi-passed : (v : ℕ) → Passed 0 v true true (turn - fixed_of pi_bits)
pi-passed v =
    let R = turn - fixed_of pi_bits in
    let a = ahead-right 0 v at-pi in
    let b = behind-right 0 v at-pi in
    record {
      above = carry (900 * (0 + v)) a b (omega arith);
      below = carry (900 * (0 + v)) b a (omega arith);
      forward = le_trans (le_of_eq (ap (λ (n : ℕ). n + 900 * (0 + v)) (against-pi v))) (le_trans (forward-at v) (le_of_eq (sym (along-pi v))));
    }
  where
    forward-at : (v : ℕ) → v * 5686511060 + 0 * 6200181727 + 900 * (0 + v) ≤ v * 6760252892 + 0 * 6200181607
    forward-at v = omega arith

no-rise : (u G H : ℕ) → 0 < G → Cut u 0 G H → u ≡ 0
no-rise zero G H pos c = refl
no-rise (suc u) G H pos c = absurd (none (lt_of_lt_of_le (mul-pos {m = suc u} (omega arith) pos) (le_trans c.low (le_of_eq (zero-mul H)))))
  where
    none : 0 < 0 → ⊥
    none z = omega arith

pub pi-rule : (y x : Float) (p : Bool) (X u v : ℕ) → Is y p 0 → Is x true X → Pair 0 X u v → Atan2Rule y x (of_bits binary32 (bit p * sign_place + pi_bits))
pi-rule y x p X u v hy hx pr =
    made y x p true 0 X u v hy hx pr pi_bits (turn - fixed_of pi_bits) true (lit≤ tt) (le_refl pi_bits) (lit≤ tt) (flipped (fixed_of pi_bits) (lit≤ tt) (lit≤ tt))
    (subst (λ (n : ℕ). Passed n v true true (turn - fixed_of pi_bits)) (sym (no-rise u pr.scale (2 ^ 925) pr.scale-pos pr.rise)) (pi-passed v))
