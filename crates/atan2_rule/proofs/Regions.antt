-- The three intervals of the bisection: at its ends the miss is small, and wherever the miss is small the answer points forward. Assumes nothing.
use mathlib.Core.Path.{◌≡◌, refl, sym, ap, ◌∙◌}
use Prim.Native.Nat.{ℕ, ◌+◌, ◌*◌, ◌/◌, ◌^◌, ◌≤◌, ◌<◌}
use native.Mathlib.Nat.{le_refl, le_trans, le_of_eq, add-le-add, mul-add, mul-le-mul_left, le_of_mul-le-mul_left, le-add_right, lt_of_not-le, le_of_lt}
use native.Mathlib.Omega.{arith}
use native.Mathlib.Decide.{dec_le}
use mathlib.Core.Bool.{Bool, true, false}
use mathlib.Core.List.{[], ◌∷◌}
use lib.Dec.{lit≤}
use Rattle.trig_rule.specs.Sums.{factorial}
use Rattle.trig_rule.specs.Steps.{fixed_of, fourth_of, ladder, sine_plus, sine_minus}
use Rattle.atan2_rule.specs.Steps.{cosine_up, cosine_down, sine_up, sine_down, ahead, behind, along, against, least, quarter, three_quarters, most}
use Rattle.atan2_rule.proofs.Sides.{sine-minus-mono, cosine-up-mono, cosine-down-mono}

-- |u·cos - x·sin| is small, and x·cos + u·sin is not, at an angle below half a turn: `right` where x is not negative
pub record Settled (u v : ℕ) (right : Bool) (R : ℕ) : Type 0 where
  pub above : ahead u v right R ≤ behind u v right R + 900 * (u + v)
  pub below : behind u v right R ≤ ahead u v right R + 900 * (u + v)

abbrev pub Forward : ℕ → ℕ → Bool → ℕ → Type 0
Forward u v right R = against u v right true R + 900 * (u + v) ≤ along u v right true R

-- an interval of angles: the miss is small at its low end, where it is behind, and at its high end, where it is ahead
pub record Region (u v : ℕ) (right : Bool) (from to : ℕ) : Type 0 where
  pub low : behind u v right from ≤ ahead u v right from + 900 * (u + v)
  pub high : ahead u v right to ≤ behind u v right to + 900 * (u + v)
  pub forward : (R : ℕ) → from ≤ R → R ≤ to → Settled u v right R → Forward u v right R

-- ---- the sides at the ends, computed
pub record Ends (R cu cd su sd : ℕ) : Type 0 where
  pub cosine-up : cosine_up R ≡ cu
  pub cosine-down : cosine_down R ≡ cd
  pub sine-up : sine_up R ≡ su
  pub sine-down : sine_down R ≡ sd

at_least : Ends (fixed_of least) 1073741824 0 65536 0
unfolding ladder factorial
at_least = record { cosine-up = refl; cosine-down = refl; sine-up = refl; sine-down = refl }

at-quarter : Ends (fixed_of quarter) 1090769148 331519044 845989256 86739115
unfolding ladder factorial
at-quarter = record { cosine-up = refl; cosine-down = refl; sine-up = refl; sine-down = refl }

at-three-quarters : Ends (fixed_of three_quarters) 2478005748 3237255880 3186371131 2427121009
unfolding ladder factorial
at-three-quarters = record { cosine-up = refl; cosine-down = refl; sine-up = refl; sine-down = refl }

at_most : Ends (fixed_of most) 5686510668 6760252496 6200181366 6200181181
unfolding ladder factorial
at_most = record { cosine-up = refl; cosine-down = refl; sine-up = refl; sine-down = refl }

-- what is added and taken away at such an end, as sums of the two sizes
module _ (u v : ℕ) {R cu cd su sd : ℕ} (e : Ends R cu cd su sd) where
  pub ahead-right : ahead u v true R ≡ u * cu + v * sd
  unfolding ahead
  ahead-right = ap (λ (n : ℕ). u * n + v * sine_down R) e.cosine-up ∙ ap (λ (n : ℕ). u * cu + v * n) e.sine-down

  pub behind-right : behind u v true R ≡ u * cd + v * su
  unfolding behind
  behind-right = ap (λ (n : ℕ). u * n + v * sine_up R) e.cosine-down ∙ ap (λ (n : ℕ). u * cd + v * n) e.sine-up

  pub ahead-left : ahead u v false R ≡ u * cu + v * su
  unfolding ahead
  ahead-left = ap (λ (n : ℕ). u * n + v * sine_up R) e.cosine-up ∙ ap (λ (n : ℕ). u * cu + v * n) e.sine-up

  pub behind-left : behind u v false R ≡ u * cd + v * sd
  unfolding behind
  behind-left = ap (λ (n : ℕ). u * n + v * sine_down R) e.cosine-down ∙ ap (λ (n : ℕ). u * cd + v * n) e.sine-down

pub carry : {a b c d : ℕ} (l : ℕ) → a ≡ c → b ≡ d → c ≤ d + l → a ≤ b + l
carry l e f h = le_trans (le_of_eq e) (le_trans h (add-le-add (le_of_eq (sym f)) (le_refl l)))

-- ---- the sides inside
-- the first terms are 1
cosine-up-least : (R : ℕ) → 2 ^ 30 ≤ cosine_up R
cosine-up-least R = mul-le-mul_left 4 (le-add_right (2 ^ 28) (fourth_of R * ladder (2 ^ 28) (fourth_of R) (4 ∷ 8 ∷ 12 ∷ 16 ∷ []) / 2 ^ 32))

sine-plus-least : (R : ℕ) → 2 ^ 30 ≤ sine_plus R
sine-plus-least R = le-add_right (2 ^ 30) (fourth_of R * ladder (2 ^ 30) (fourth_of R) (5 ∷ 9 ∷ 13 ∷ 17 ∷ []) / 2 ^ 32)

-- p times a number that is at least k larger
apart_by : (p a b k : ℕ) → b + k ≤ a → p * b / 2 ^ 30 + p * k / 2 ^ 30 ≤ p * a / 2 ^ 30
apart_by p a b k h = let c : p * b + p * k ≤ p * a = le_trans (le_of_eq (sym (mul-add p b k))) (mul-le-mul_left p h) in cut (p * a) (p * b) (p * k) c
  where
    cut : (x y z : ℕ) → y + z ≤ x → y / 2 ^ 30 + z / 2 ^ 30 ≤ x / 2 ^ 30
    cut x y z l = omega arith

-- ---- x above 0 and not below y: from 2 ^ -14 to a quarter
right-forward : (u v cu cd su sd : ℕ) → u ≤ v → 2 ^ 30 ≤ cu → cd ≤ 331519044 → sd ≤ su → v * cd + u * sd + 900 * (u + v) ≤ v * cu + u * su
right-forward u v cu cd su sd h a b c =
    let p : v * 2 ^ 30 ≤ v * cu = mul-le-mul_left v a in
    let q : v * cd ≤ v * 331519044 = mul-le-mul_left v b in
    let r : u * sd ≤ u * su = mul-le-mul_left u c in
    omega arith

sine-minus-quarter : (R : ℕ) → R ≤ fixed_of quarter → sine_minus R ≤ 2 ^ 30
unfolding ladder factorial
sine-minus-quarter R k = le_trans (sine-minus-mono R (fixed_of quarter) k) (lit≤ tt)

cosine-down-quarter : (R : ℕ) → R ≤ fixed_of quarter → cosine_down R ≤ 331519044
unfolding ladder factorial
cosine-down-quarter R k = le_trans (cosine-down-mono R (fixed_of quarter) k) (lit≤ tt)

right-inside : (u v R : ℕ) → u ≤ v → R ≤ fixed_of quarter → Forward u v true R
unfolding along against
right-inside u v R flat k =
    right-forward u v (cosine_up R) (cosine_down R) (sine_up R) (sine_down R) flat (cosine-up-least R) (cosine-down-quarter R k)
    (sized-mono (R / 2 ^ 26) (le_trans (sine-minus-quarter R k) (sine-plus-least R)))
  where
    thirty : {a b : ℕ} → a ≤ b → a / 2 ^ 30 ≤ b / 2 ^ 30
    thirty h = omega arith

    sized-mono : (p : ℕ) {a b : ℕ} → a ≤ b → p * a / 2 ^ 30 ≤ p * b / 2 ^ 30
    sized-mono p h = thirty (mul-le-mul_left p h)

pub right-region : (u v : ℕ) → u ≤ v → v < 8192 * u → Region u v true (fixed_of least) (fixed_of quarter)
right-region u v flat h = record {
  low = carry (900 * (u + v)) (behind-right u v at_least) (ahead-right u v at_least) (omega arith);
  high = carry (900 * (u + v)) (ahead-right u v at-quarter) (behind-right u v at-quarter) (omega arith);
  forward = λ R l k s. right-inside u v R flat k;
}

-- ---- y above x: from a quarter to three quarters. The sine is not small there, so that a small miss leaves no large cosine against x
steep-forward : (u v c d su sd : ℕ) → v < u → c ≤ d + 1800 → sd + 4000 ≤ su → v * c + u * sd + 900 * (u + v) ≤ v * d + u * su
steep-forward u v c d su sd h a b =
    let p : v * c ≤ v * (d + 1800) = mul-le-mul_left v a in
    let p' : v * (d + 1800) ≡ v * d + v * 1800 = mul-add v d 1800 in
    let q : u * (sd + 4000) ≤ u * su = mul-le-mul_left u b in
    let q' : u * (sd + 4000) ≡ u * sd + u * 4000 = mul-add u sd 4000 in
    omega arith

-- u·c + v·s ≤ u·d + v·t + 900·(u + v), with t at most s
small-cosine : (u v c d s t : ℕ) → v < u → t ≤ s → u * c + v * s ≤ u * d + v * t + 900 * (u + v) → c ≤ d + 1800
small-cosine u v c d s t h a b =
    let p : v * t ≤ v * s = mul-le-mul_left v a in
    let q : u * (d + 1800) ≡ u * d + u * 1800 = mul-add u d 1800 in
    let g : u * c ≤ u * (d + 1800) = omega arith in
    le_of_mul-le-mul_left g (omega arith)

sine-minus-three : (R : ℕ) → R ≤ fixed_of three_quarters → sine_minus R + 40000000 ≤ 2 ^ 30
unfolding ladder factorial
sine-minus-three R k = le_trans (add-le-add (sine-minus-mono R (fixed_of three_quarters) k) (le_refl 40000000)) (lit≤ tt)

wide-sine : (R : ℕ) → fixed_of quarter ≤ R → R ≤ fixed_of three_quarters → sine_down R + 4000 ≤ sine_up R
wide-sine R l k =
    let a : 843314800 ≤ R / 2 ^ 26 = omega arith in
    let b : sine_down R + R / 2 ^ 26 * 40000000 / 2 ^ 30 ≤ sine_up R = apart_by (R / 2 ^ 26) (sine_plus R) (sine_minus R) 40000000 (le_trans (sine-minus-three R k) (sine-plus-least R)) in
    let c : 4000 ≤ R / 2 ^ 26 * 40000000 / 2 ^ 30 = omega arith in
    le_trans (add-le-add (le_refl (sine_down R)) c) b

steep-inside : (u v : ℕ) (right : Bool) (R : ℕ) → v < u → fixed_of quarter ≤ R → R ≤ fixed_of three_quarters → Settled u v right R → Forward u v right R
unfolding ahead behind along against
steep-inside u v true R h l k s =
    steep-forward u v (cosine_down R) (cosine_up R) (sine_up R) (sine_down R) h
    (small-cosine u v (cosine_down R) (cosine_up R) (sine_up R) (sine_down R) h (le_trans (le-add_right (sine_down R) 4000) (wide-sine R l k)) s.below) (wide-sine R l k)
steep-inside u v false R h l k s =
    steep-forward u v (cosine_up R) (cosine_down R) (sine_up R) (sine_down R) h
    (small-cosine u v (cosine_up R) (cosine_down R) (sine_up R) (sine_down R) h (le_trans (le-add_right (sine_down R) 4000) (wide-sine R l k)) s.above) (wide-sine R l k)

pub steep-region : (u v : ℕ) (right : Bool) → v < u → Region u v right (fixed_of quarter) (fixed_of three_quarters)
steep-region u v true h = record {
  low = carry (900 * (u + v)) (behind-right u v at-quarter) (ahead-right u v at-quarter) (omega arith);
  high = carry (900 * (u + v)) (ahead-right u v at-three-quarters) (behind-right u v at-three-quarters) (omega arith);
  forward = λ R l k s. steep-inside u v true R h l k s;
}
steep-region u v false h = record {
  low = carry (900 * (u + v)) (behind-left u v at-quarter) (ahead-left u v at-quarter) (omega arith);
  high = carry (900 * (u + v)) (ahead-left u v at-three-quarters) (behind-left u v at-three-quarters) (omega arith);
  forward = λ R l k s. steep-inside u v false R h l k s;
}

-- ---- x below 0 and not above -y: from three quarters to half a turn. The cosine is below zero, in four pieces
cosine-piece : (a b R : ℕ) → a ≤ R → R ≤ b → cosine_up b + 4000 ≤ cosine_down a → cosine_up R + 4000 ≤ cosine_down R
cosine-piece a b R l k h = le_trans (add-le-add (cosine-up-mono R b k) (le_refl 4000)) (le_trans h (cosine-down-mono a R l))

deep-cosine : (R : ℕ) → fixed_of three_quarters ≤ R → R ≤ fixed_of most → cosine_up R + 4000 ≤ cosine_down R
unfolding ladder factorial
deep-cosine R l k = pick (dec_le R 188066723830693887) (dec_le R 204729472644022271) (dec_le R 219159056231694335)
  where
    pick : Dec (R ≤ 188066723830693887) → Dec (R ≤ 204729472644022271) → Dec (R ≤ 219159056231694335) → cosine_up R + 4000 ≤ cosine_down R
    pick (yes p) d e = cosine-piece (fixed_of three_quarters) 188066723830693887 R l p (lit≤ tt)
    pick (no p) (yes q) e = cosine-piece 188066723830693887 204729472644022271 R (le_of_lt (lt_of_not-le p)) q (lit≤ tt)
    pick (no p) (no q) (yes r) = cosine-piece 204729472644022271 219159056231694335 R (le_of_lt (lt_of_not-le q)) r (lit≤ tt)
    pick (no p) (no q) (no r) = cosine-piece 219159056231694335 (fixed_of most) R (le_of_lt (lt_of_not-le r)) k (lit≤ tt)

left-forward : (u v cu cd su sd : ℕ) → u ≤ v → 0 < v → cu + 4000 ≤ cd → u * cd + v * sd ≤ u * cu + v * su + 900 * (u + v) → v * cu + u * sd + 900 * (u + v) ≤ v * cd + u * su
left-forward u v cu cd su sd h pos a b =
    let p : u * cu ≤ u * cd = mul-le-mul_left u (le_trans (le-add_right cu 4000) a) in
    let q : v * (su + 1800) ≡ v * su + v * 1800 = mul-add v su 1800 in
    let g : v * sd ≤ v * (su + 1800) = omega arith in
    let s : sd ≤ su + 1800 = le_of_mul-le-mul_left g pos in
    let t : u * sd ≤ u * (su + 1800) = mul-le-mul_left u s in
    let t' : u * (su + 1800) ≡ u * su + u * 1800 = mul-add u su 1800 in
    let w : v * (cu + 4000) ≤ v * cd = mul-le-mul_left v a in
    let w' : v * (cu + 4000) ≡ v * cu + v * 4000 = mul-add v cu 4000 in
    omega arith

left-inside : (u v R : ℕ) → u ≤ v → 0 < v → fixed_of three_quarters ≤ R → R ≤ fixed_of most → Settled u v false R → Forward u v false R
unfolding ahead behind along against
left-inside u v R flat pos l k s = left-forward u v (cosine_up R) (cosine_down R) (sine_up R) (sine_down R) flat pos (deep-cosine R l k) s.below

pub left-region : (u v : ℕ) → u ≤ v → 0 < v → Region u v false (fixed_of three_quarters) (fixed_of most)
left-region u v flat pos = record {
  low = carry (900 * (u + v)) (behind-left u v at-three-quarters) (ahead-left u v at-three-quarters) (omega arith);
  high = carry (900 * (u + v)) (ahead-left u v at_most) (behind-left u v at_most) (omega arith);
  forward = λ R l k s. left-inside u v R flat pos l k s;
}
