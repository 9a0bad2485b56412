-- An angle that passes the test keeps the rule's inequalities: first for the sums at R / 2 ^ 56 and the two sizes, for each side of x and of the rest; then in units of 2 ^ -149, with y's sign. Assumes nothing.
use mathlib.Core.Path.{◌≡◌, refl, sym, ap, ◌∙◌, subst}
use Prim.Native.Nat.{ℕ, ◌+◌, ◌*◌, ◌^◌, ◌≤◌, ◌<◌}
use native.Mathlib.Nat.{le_trans, le_of_eq, add_comm, mul-add, mul_assoc, mul_left_comm, mul-le-mul_left, mul-lt-mul_of_pos_left, lt_of_lt_of_le, lt_of_le_of_lt}
use mathlib.Core.Bool.{Bool, true, false, not, cond, ◌&&◌}
use lib.Dec.{T, leb, leb→le, lit≤}
use lib.Ieee.{unlike}
use lib.Ieee.Fits.{and_l, and_r}
use Rattle.trig_rule.specs.Sums.{factorial, whole, sine_side, cosine_side}
use Rattle.trig_rule.specs.Steps.{half}
use Rattle.trig_rule.proofs.Patterns.{bit}
use Rattle.trig_rule.proofs.Scaled.{whole_scaled, sine-side-scaled, cosine-side-scaled}
use Rattle.atan2_rule.specs.Rule.{times_cosine, times_sine, over, Points}
use Rattle.atan2_rule.specs.Steps.{cosine_up, cosine_down, sine_up, sine_down, ahead, behind, along, against, passes_at}
use Rattle.atan2_rule.proofs.Exact.{Beside, cosine-up-beside, cosine-down-beside, sine-up-beside, sine-down-beside, Cut, residual, pointing}

abbrev w : ℕ
w = whole 30 (2 ^ 56)

abbrev z : ℕ
z = whole 31 (2 ^ 56)

w-pos : 0 < w
unfolding whole factorial
w-pos = lit≤ tt

z-pos : 0 < z
unfolding whole factorial
z-pos = lit≤ tt

-- ---- the sums at r / d, with y's sign taken out: x is negative where q is true, the rest where f is

-- one side's sum: n times a side of the cosine, and m times one of the sine
abbrev pub sum_of : Bool → Bool → ℕ → ℕ → ℕ → ℕ → ℕ
sum_of c s n m r d = n * cosine_side c r d * whole 31 d + m * sine_side s r d * whole 30 d

pub record Kept (q f : Bool) (Y X r d : ℕ) : Type 0 where
  pub above : 2 ^ 20 * sum_of true (unlike f q) Y X r d ≤ 2 ^ 20 * sum_of false (not (unlike f q)) Y X r d + (X + Y) * (whole 30 d * whole 31 d)
  pub below : 2 ^ 20 * sum_of false (not (unlike f q)) Y X r d ≤ 2 ^ 20 * sum_of true (unlike f q) Y X r d + (X + Y) * (whole 30 d * whole 31 d)
  pub forward : sum_of q f X Y r d < sum_of (not q) (not f) X Y r d

-- the test's three parts, by x's side and the rest's
pub record Passed (u v : ℕ) (q f : Bool) (R : ℕ) : Type 0 where
  pub above : ahead u v (not (unlike f q)) R ≤ behind u v (not (unlike f q)) R + 900 * (u + v)
  pub below : behind u v (not (unlike f q)) R ≤ ahead u v (not (unlike f q)) R + 900 * (u + v)
  pub forward : against u v (not q) (not f) R + 900 * (u + v) ≤ along u v (not q) (not f) R

abbrev test_of : ℕ → ℕ → Bool → Bool → ℕ → Bool
test_of u v q f R =
    leb (ahead u v (not (unlike f q)) R) (behind u v (not (unlike f q)) R + 900 * (u + v))
    && (leb (behind u v (not (unlike f q)) R) (ahead u v (not (unlike f q)) R + 900 * (u + v)) && leb (against u v (not q) (not f) R + 900 * (u + v)) (along u v (not q) (not f) R))

parts : (u v : ℕ) (q f : Bool) (R : ℕ) → T (test_of u v q f R) → Passed u v q f R
parts u v q f R t =
    let s = not (unlike f q) in
    let a = leb (ahead u v s R) (behind u v s R + 900 * (u + v)) in
    let b = leb (behind u v s R) (ahead u v s R + 900 * (u + v)) in
    let c = leb (against u v (not q) (not f) R + 900 * (u + v)) (along u v (not q) (not f) R) in
    record {
      above = leb→le (ahead u v s R) (behind u v s R + 900 * (u + v)) (and_l a (b && c) t);
      below = leb→le (behind u v s R) (ahead u v s R + 900 * (u + v)) (and_l b c (and_r a (b && c) t));
      forward = leb→le (against u v (not q) (not f) R + 900 * (u + v)) (along u v (not q) (not f) R) (and_r b c (and_r a (b && c) t));
    }

pub passed : (u v : ℕ) (q f : Bool) (R : ℕ) → passes_at u v (bit q) (bit f) R ≡ true → Passed u v q f R
passed u v false false R h = parts u v false false R (subst T (sym h) tt)
passed u v false true R h = parts u v false true R (subst T (sym h) tt)
passed u v true false R h = parts u v true false R (subst T (sym h) tt)
passed u v true true R h = parts u v true true R (subst T (sym h) tt)

-- ---- a side by its name, and by its opposite's
module _ (R : ℕ) (m : R ≤ half) where
  cosine-is : (b : Bool) → Beside (cond b (cosine_up R) (cosine_down R)) (cosine_side b R (2 ^ 56)) w
  cosine-is true = cosine-up-beside R m
  cosine-is false = cosine-down-beside R m

  cosine-other : (b : Bool) → Beside (cond (not b) (cosine_down R) (cosine_up R)) (cosine_side b R (2 ^ 56)) w
  cosine-other true = cosine-up-beside R m
  cosine-other false = cosine-down-beside R m

  sine-is : (b : Bool) → Beside (cond b (sine_up R) (sine_down R)) (sine_side b R (2 ^ 56)) z
  sine-is true = sine-up-beside R m
  sine-is false = sine-down-beside R m

  sine-other : (b : Bool) → Beside (cond (not b) (sine_down R) (sine_up R)) (sine_side b R (2 ^ 56)) z
  sine-other true = sine-up-beside R m
  sine-other false = sine-down-beside R m

module _ (u v Y X G H R : ℕ) (m : R ≤ half) (cu : Cut u Y G H) (cv : Cut v X G H) (pos_h : 0 < H) (pos_g : 0 < G) (large : 2 ^ 29 ≤ u + v) where
  pub kept : (q f : Bool) → Passed u v q f R → Kept q f Y X R (2 ^ 56)
  unfolding ahead behind along against
  kept q f t =
      let s = unlike f q in
      let up = sine-other R m s in
      let down = sine-is R m (not s) in
      record {
        above = residual u v Y X G H w z cu cv _ _ _ _ _ _ _ _ pos_h large (cosine-up-beside R m) up (cosine-down-beside R m) down t.above;
        below = residual u v Y X G H w z cu cv _ _ _ _ _ _ _ _ pos_h large (cosine-down-beside R m) down (cosine-up-beside R m) up t.below;
        forward = pointing v u X Y G H w z cv cu _ _ _ _ _ _ _ _ pos_h pos_g w-pos z-pos (le_trans large (le_of_eq (add_comm u v)))
            (cosine-other R m q) (sine-other R m f) (cosine-is R m (not q)) (sine-is R m (not f)) (subst (λ (n : ℕ). against u v (not q) (not f) R + 900 * n ≤ along u v (not q) (not f) R) (add_comm u v) t.forward);
      }

-- ---- the same in units of 2 ^ -149: every product grows by one factor
regroup : (k l n a b : ℕ) → n * (k * a) * (l * b) ≡ k * l * (n * a * b)
regroup k l n a b = simp (mul_assoc, mul_left_comm)

regroup-whole : (k l a b : ℕ) → k * a * (l * b) ≡ k * l * (a * b)
regroup-whole k l a b = simp (mul_assoc, mul_left_comm)

abbrev factor : ℕ
factor = (2 ^ 93) ^ 30 * (2 ^ 93) ^ 31

factor-pos : 0 < factor
factor-pos = lit≤ tt

cosine-scaled : (n R : ℕ) (b : Bool) → n * cosine_side b (R * 2 ^ 93) (2 ^ 149) * whole 31 (2 ^ 149) ≡ factor * (n * cosine_side b R (2 ^ 56) * z)
cosine-scaled n R b =
    ap (λ (a : ℕ). n * a * whole 31 (2 ^ 149)) (cosine-side-scaled b R) ∙ ap (λ (a : ℕ). n * ((2 ^ 93) ^ 30 * cosine_side b R (2 ^ 56)) * a) (whole_scaled 31 (2 ^ 93) (2 ^ 56))
    ∙ regroup ((2 ^ 93) ^ 30) ((2 ^ 93) ^ 31) n (cosine_side b R (2 ^ 56)) z

sine-scaled : (n R : ℕ) (b : Bool) → n * sine_side b (R * 2 ^ 93) (2 ^ 149) * whole 30 (2 ^ 149) ≡ factor * (n * sine_side b R (2 ^ 56) * w)
sine-scaled n R b =
    ap (λ (a : ℕ). n * a * whole 30 (2 ^ 149)) (sine-side-scaled b R) ∙ ap (λ (a : ℕ). n * ((2 ^ 93) ^ 31 * sine_side b R (2 ^ 56)) * a) (whole_scaled 30 (2 ^ 93) (2 ^ 56))
    ∙ regroup ((2 ^ 93) ^ 31) ((2 ^ 93) ^ 30) n (sine_side b R (2 ^ 56)) w

over-scaled : over ≡ factor * (w * z)
over-scaled =
    ap (λ (c : ℕ). c * whole 31 (2 ^ 149)) (whole_scaled 30 (2 ^ 93) (2 ^ 56)) ∙ ap (λ (c : ℕ). (2 ^ 93) ^ 30 * w * c) (whole_scaled 31 (2 ^ 93) (2 ^ 56))
    ∙ regroup-whole ((2 ^ 93) ^ 30) ((2 ^ 93) ^ 31) w z

-- an inequality of the first kind, and one of the second, times k
grow-close : (k a b c d s o : ℕ) {A B C D O : ℕ} → A ≡ k * a → B ≡ k * b → C ≡ k * c → D ≡ k * d → O ≡ k * o → 2 ^ 20 * (a + b) ≤ 2 ^ 20 * (c + d) + s * o → 2 ^ 20 * (A + B) ≤ 2 ^ 20 * (C + D) + s * O
grow-close k a b c d s o {A} {B} {C} {D} {O} e_a e_b e_c e_d e_o h = rw (e_a, e_b, e_c, e_d, e_o) (le_trans (le_of_eq left) (le_trans (mul-le-mul_left k h) (le_of_eq right)))
  where
    left : 2 ^ 20 * (k * a + k * b) ≡ k * (2 ^ 20 * (a + b))
    left = ap (λ (x : ℕ). 2 ^ 20 * x) (sym (mul-add k a b)) ∙ mul_left_comm (2 ^ 20) k (a + b)

    right : k * (2 ^ 20 * (c + d) + s * o) ≡ 2 ^ 20 * (k * c + k * d) + s * (k * o)
    right = mul-add k (2 ^ 20 * (c + d)) (s * o) ∙ ap (λ (x : ℕ). x + k * (s * o)) (mul_left_comm k (2 ^ 20) (c + d) ∙ ap (λ (x : ℕ). 2 ^ 20 * x) (mul-add k c d)) ∙ ap (λ (x : ℕ). 2 ^ 20 * (k * c + k * d) + x) (mul_left_comm k s o)

grow-less : (k a b c d : ℕ) {A B C D : ℕ} → 0 < k → A ≡ k * a → B ≡ k * b → C ≡ k * c → D ≡ k * d → a + b < c + d → A + B < C + D
grow-less k a b c d {A} {B} {C} {D} pos e_a e_b e_c e_d h = rw (e_a, e_b, e_c, e_d) (lt_of_le_of_lt (le_of_eq (sym (mul-add k a b))) (lt_of_lt_of_le (mul-lt-mul_of_pos_left h pos) (le_of_eq (mul-add k c d))))

pub kept-scaled : (q f : Bool) (Y X R : ℕ) → Kept q f Y X R (2 ^ 56) → Kept q f Y X (R * 2 ^ 93) (2 ^ 149)
kept-scaled q f Y X R k =
    let t = unlike f q in
    let c1 = cosine-scaled Y R true in
    let c0 = cosine-scaled Y R false in
    let s1 = sine-scaled X R t in
    let s0 = sine-scaled X R (not t) in
    record {
      above = grow-close factor _ _ _ _ (X + Y) (w * z) c1 s1 c0 s0 over-scaled k.above;
      below = grow-close factor _ _ _ _ (X + Y) (w * z) c0 s0 c1 s1 over-scaled k.below;
      forward = grow-less factor _ _ _ _ factor-pos (cosine-scaled X R q) (sine-scaled Y R f) (cosine-scaled X R (not q)) (sine-scaled Y R (not f)) k.forward;
    }

-- ---- y's sign, which is a's too
-- which side of the sum a side of the product is
plus-on : (f q : Bool) → unlike (unlike (unlike false f) q) true ≡ not (unlike f q)
plus-on false false = refl
plus-on false true = refl
plus-on true false = refl
plus-on true true = refl

plus-off : (f q : Bool) → unlike (unlike (unlike false f) q) false ≡ unlike f q
plus-off false false = refl
plus-off false true = refl
plus-off true false = refl
plus-off true true = refl

minus-on : (f q : Bool) → unlike (unlike (unlike true f) q) true ≡ unlike f q
minus-on false false = refl
minus-on false true = refl
minus-on true false = refl
minus-on true true = refl

minus-off : (f q : Bool) → unlike (unlike (unlike true f) q) false ≡ not (unlike f q)
minus-off false false = refl
minus-off false true = refl
minus-off true false = refl
minus-off true true = refl

itself : (q : Bool) → unlike q false ≡ q
itself false = refl
itself true = refl

opposite : (q : Bool) → unlike q true ≡ not q
opposite false = refl
opposite true = refl

both-on : (p f : Bool) → unlike (unlike (unlike p f) p) true ≡ not f
both-on false false = refl
both-on false true = refl
both-on true false = refl
both-on true true = refl

both-off : (p f : Bool) → unlike (unlike (unlike p f) p) false ≡ f
both-off false false = refl
both-off false true = refl
both-off true false = refl
both-off true true = refl

module _ (q f : Bool) (Y X r : ℕ) (k : Kept q f Y X r (2 ^ 149)) where
  forward-with : (p : Bool) → times_cosine q X r false + times_sine (unlike (unlike p f) p) Y r false < times_cosine q X r true + times_sine (unlike (unlike p f) p) Y r true
  forward-with p = rw (itself q, both-off p f, opposite q, both-on p f) k.forward

  pub points : (p : Bool) → Points p Y q X (unlike p f) r
  points false = record { above = rw (plus-off f q, plus-on f q) k.above; below = rw (plus-off f q, plus-on f q) k.below; forward = forward-with false }
  points true = record { above = rw (minus-off f q, minus-on f q) k.below; below = rw (minus-off f q, minus-on f q) k.above; forward = forward-with true }
