-- The angle between two vectors whose product is finite is at most 4 in size, whatever their lengths, so that no angle of an arc is a NaN or beyond 12. Assumes nothing.
use mathlib.Core.Path.{◌≡◌, refl, sym, subst}
use mathlib.Core.Logic.{inl, inr}
use Prim.Native.Nat.{ℕ, zero, suc, ◌+◌, ◌*◌, ◌≤◌, ◌<◌, ◌^◌}
use native.Mathlib.Nat.{zero-lt-suc, le_trans, le_of_eq, mul-one, zero-mul, mul_right_comm, mul-le-mul_right, le_of_mul-le-mul_right}
use native.Mathlib.Omega.{arith}
use mathlib.Core.Bool.{Bool, true, false, ◌&&◌, cond}
use lib.Dec.{T, ltb, lt→ltb, eqb, eqb→eq, lit≤}
use lib.IntN.{pos}
use lib.Pow.{pow_pos}
use lib.Ieee.{Float, nan, inf, fin, Format, binary32, of_bits, up, down, prec, emax, low, odd, units, round, neg, add, sub, mul, div, le, lt, eq, ne, is_nan, fits, unlike}
use lib.Ieee.Fits.{round_is, and_l, and_r, cond-fits, neg-fits, sub-fits, div-fits}
use lib.Ieee.Positive.{num}
use lib.Ieee.Scale.{finite}
use Rattle.floats.specs.Floats.{zero_f, one_f, epsilon_f, max_of, clamp_of}
use Rattle.floats.specs.Kinds.{real, nonneg, is_zero}
use Rattle.floats.proofs.Tests.{decide}
use Rattle.floats.proofs.Signs.{le→signed}
use Rattle.floats.proofs.Order.{lt-le-trans}
use Rattle.floats.proofs.Fractions.{nonneg-real, lt→pos}
use Rattle.floats.proofs.Between.{nonneg-from}
use Rattle.floats.proofs.Constants.{zero_held, one-held, epsilon-held, zero-lt-epsilon}
use Rattle.floats.proofs.Clamping.{clamp-at-least, clamp-at-most}
use Rattle.floats.proofs.Extremes.{max-right}
use Rattle.floats.proofs.Within.{Within, within-le, Holds, holds-scaled, add-within, sub_within, mul-within}
use Rattle.root.specs.Root.{sqrt_of}
use Rattle.root.proofs.Laws.{sqrt-fits, sqrt-finite}
use Rattle.trig_rule.specs.Rule.{Is}
use Rattle.atan2_rule.specs.Rule.{pi_units}
use Rattle.atan2_rule.specs.Steps.{atan2_of}
use Rattle.atan2_rule.proofs.Meets.{atan2-meets-rule, atan2-both-zero}
use Rattle.math.specs.declared.points.Point.{Point}
use Rattle.math.specs.Math.{pi_f, dot_of}
use Rattle.angles.specs.Angles.{minus_one_f, sign_of, denom_of, cosine_of_angle, sine_beside, angle_between_of}
use Rattle.ellipse.specs.Ends.{two_f, whole_turn_f, turned_of}
use Rattle.path_bounds.proofs.Tested.{Near}
use Rattle.path_bounds.proofs.Roots.{holds-power}

-- ---- a quotient by 2^-23 or more is a number
odd-real : (d : ℕ) (s : Bool) (q k l : ℕ) → T (real (odd d s q k l))
unfolding odd is_nan
odd-real d s zero k l = tt
odd-real d s (suc q) k l = tt

units-real : (f : Format) (s : Bool) (q k : ℕ) → T (real (units f s q k))
unfolding units is_nan
units-real f s q k = go (ltb (q * 2 ^ k) (2 ^ (low f + suc (emax f))))
  where
    go : (b : Bool) → T (real (cond b (odd (suc (prec f)) s q k (low f)) (inf s)))
    go true = odd-real (suc (prec f)) s q k (low f)
    go false = tt

round-real : (f : Format) (s : Bool) (a c : ℕ) → T (real (round f s a c))
round-real f s a c = subst (λ (z : Float). T (real z)) (sym (round_is f s a c)) (units-real f s _ _)

quotient-real : (x y : Float) → T (finite x) → T (le epsilon_f y) → T (real (div binary32 x y))
unfolding div is_nan le lt eq epsilon_f of_bits
quotient-real nan y p l = absurd p
quotient-real (inf s) y p l = absurd p
quotient-real (fin s m e) nan p l = absurd l
quotient-real (fin s m e) (inf true) p l = absurd l
quotient-real (fin s m e) (inf false) p l = tt
quotient-real (fin s m e) (fin t n d) p l = go (eqb n 0) (λ z. none (eqb→eq n 0 z))
  where
    above : 0 < num (fin t n d)
    above =
        let nn = nonneg-from epsilon_f (fin t n d) epsilon-held.nn tt l in
        lt→pos zero_f (fin t n d) zero_held.nn nn (lt-le-trans zero_f epsilon_f (fin t n d) zero-lt-epsilon l)

    none : n ≡ 0 → ⊥
    none z = let w : n * up d ≡ 0 = subst (λ (k : ℕ). k * up d ≡ 0) (sym z) (zero-mul (up d)) in let a = above in omega (arith, w, a)

    go : (b : Bool) → (T b → ⊥) → T (real (cond b (cond (eqb m 0) nan (inf (unlike s t))) (round binary32 (unlike s t) (m * up e * down d) (n * up d * down e))))
    go true h = absurd (h tt)
    go false h = round-real binary32 (unlike s t) (m * up e * down d) (n * up d * down e)

-- ---- the cosine
one-is : one_f ≡ fin false 1 (pos 0)
unfolding one_f of_bits
one-is = refl

minus_one_is : minus_one_f ≡ fin true 1 (pos 0)
unfolding minus_one_f one_f of_bits neg
minus_one_is = refl

ordered : T (le minus_one_f one_f)
unfolding minus_one_f one_f of_bits neg le lt eq
ordered = tt

sized : (x : Float) → T (le x (fin false 1 (pos 0))) → T (le (fin true 1 (pos 0)) x) → Within 1 x
unfolding le lt eq
sized nan l u = absurd l
sized (inf true) l u = absurd u
sized (inf false) l u = absurd l
sized (fin false m e) l u = record { whole = tt; bound = le_trans (le_of_eq (sym (mul-one (m * up e)))) (le→signed false (m * up e * 1) false (1 * down e) l) }
sized (fin true m e) l u = record { whole = tt; bound = le_trans (le_of_eq (sym (mul-one (m * up e)))) (le→signed true (1 * down e) true (m * up e * 1) u) }

clamped-within : (x : Float) → T (real x) → Within 1 (clamp_of x minus_one_f one_f)
clamped-within x h =
    sized (clamp_of x minus_one_f one_f) (subst (λ (z : Float). T (le (clamp_of x minus_one_f one_f) z)) one-is (clamp-at-most minus_one_f one_f ordered x h))
    (subst (λ (z : Float). T (le z (clamp_of x minus_one_f one_f))) minus_one_is (clamp-at-least minus_one_f one_f ordered x h))

clamped-fits : (x : Float) → T (fits binary32 x) → T (fits binary32 (clamp_of x minus_one_f one_f))
unfolding clamp_of minus_one_f
clamped-fits x h = cond-fits binary32 (lt x minus_one_f) minus_one_f _ (neg-fits binary32 one_f one-held.fit) (cond-fits binary32 (lt one_f x) one_f x one-held.fit h)

module _ (u v : Point) (product : T (finite (dot_of u v))) where
  cosine-within : Within 1 (cosine_of_angle u v)
  unfolding cosine_of_angle denom_of
  cosine-within = clamped-within (div binary32 (dot_of u v) (denom_of u v)) (quotient-real (dot_of u v) (denom_of u v) product (max-right _ epsilon_f (nonneg-real epsilon_f epsilon-held.nn)))

  cosine-fits : T (fits binary32 (cosine_of_angle u v))
  unfolding cosine_of_angle
  cosine-fits = clamped-fits (div binary32 (dot_of u v) (denom_of u v)) (div-fits binary32 (dot_of u v) (denom_of u v))

-- ---- the sine beside it
one-within : Within 1 one_f
one-within = subst (Within 1) (sym one-is) (record { whole = tt; bound = lit≤ tt })

squared : (value : Float) → Within 1 value → Within 2 (sub binary32 one_f (mul binary32 value value))
squared value w = sub_within binary32 1 1 one_f (mul binary32 value value) (holds-power 1 (omega arith)) one-within (mul-within binary32 1 1 value value (holds-power 0 (omega arith)) w w)

max-finite : (x y : Float) → T (finite x) → T (finite y) → T (finite (max_of x y))
unfolding max_of
max-finite x y p q = go (ne x x) (lt x y)
  where
    go : (a b : Bool) → T (finite (cond a y (cond b y x)))
    go true b = q
    go false true = q
    go false false = p

max-fits : (x y : Float) → T (fits binary32 x) → T (fits binary32 y) → T (fits binary32 (max_of x y))
unfolding max_of
max-fits x y p q = cond-fits binary32 (ne x x) y _ q (cond-fits binary32 (lt x y) y x q p)

root-finite : (x : Float) → T (fits binary32 x) → T (nonneg x) → T (finite (sqrt_of x))
unfolding sqrt_of
root-finite nan f p = absurd p
root-finite (inf s) f p = absurd p
root-finite (fin s zero e) f p = tt
root-finite (fin true (suc m) e) f p = let z : suc m ≡ 0 = eqb→eq (suc m) 0 p in absurd (omega (arith, z))
root-finite (fin false (suc m) e) f p = sqrt-finite (fin false (suc m) e) f (lt→ltb 0 (suc m) (zero-lt-suc m))

module _ (value : Float) (w : Within 1 value) where
  below_root : T (fits binary32 (max_of (sub binary32 one_f (mul binary32 value value)) zero_f))
  below_root = max-fits (sub binary32 one_f (mul binary32 value value)) zero_f (sub-fits binary32 one_f (mul binary32 value value)) zero_held.fit

  not-below : T (nonneg (max_of (sub binary32 one_f (mul binary32 value value)) zero_f))
  unfolding zero_f of_bits
  not-below =
      nonneg-from zero_f _ zero_held.nn (max-finite (sub binary32 one_f (mul binary32 value value)) zero_f (squared value w).whole tt)
      (max-right (sub binary32 one_f (mul binary32 value value)) zero_f (nonneg-real zero_f zero_held.nn))

  sine-fits : T (fits binary32 (sine_beside value))
  unfolding sine_beside
  sine-fits = sqrt-fits _ below_root

  sine-finite : T (finite (sine_beside value))
  unfolding sine_beside
  sine-finite = root-finite _ below_root not-below

-- ---- the angle of both
value-within : (y : Float) (s : Bool) (n : ℕ) → Is y s n → n ≤ pi_units → Within 4 y
value-within nan s n v h = absurd v
value-within (inf t) s n v h = absurd v
value-within (fin t m e) s n v h =
    record {
      whole = tt;
      bound =
          le_of_mul-le-mul_right {k = 2 ^ 149}
          (le_trans (le_of_eq v.1) (le_trans (mul-le-mul_right (down e) (le_trans h (lit≤ tt))) (le_of_eq (mul_right_comm 4 (2 ^ 149) (down e))))) (pow_pos 149);
    }

zero-within : Within 4 (of_bits binary32 0)
unfolding of_bits
zero-within = record { whole = tt; bound = lit≤ tt }

atan2-within : (y x : Float) → T (fits binary32 y) → T (fits binary32 x) → T (finite y) → T (finite x) → Within 4 (atan2_of y x)
atan2-within y x fy fx ny nx = elim (decide (is_zero y && is_zero x)) [
  | inl z ↦ subst (Within 4) (sym (atan2-both-zero y x fy fx ny nx (and_l (is_zero y) (is_zero x) z) (and_r (is_zero y) (is_zero x) z))) zero-within
  | inr z ↦ (let rule = atan2-meets-rule y x fy fx ny nx z in value-within (atan2_of y x) rule.minus rule.size rule.angle rule.range)
]

sign-within : (u v : Point) → Within 1 (sign_of u v)
unfolding sign_of
sign-within u v = go (lt _ zero_f)
  where
    go : (b : Bool) → Within 1 (cond b minus_one_f one_f)
    go true = subst (Within 1) (sym minus_one_is) (record { whole = tt; bound = lit≤ tt })
    go false = one-within

between-within : (u v : Point) → T (finite (dot_of u v)) → Within 4 (angle_between_of u v)
unfolding angle_between_of
between-within u v product =
    let w = cosine-within u v product in
    mul-within binary32 1 4 (sign_of u v) (atan2_of (sine_beside (cosine_of_angle u v)) (cosine_of_angle u v)) (holds-power 2 (omega arith)) (sign-within u v)
    (atan2-within _ _ (sine-fits (cosine_of_angle u v) w) (cosine-fits u v product) (sine-finite (cosine_of_angle u v) w) w.whole)

-- ---- of vectors within 2^30, and with a whole turn more
product-within : (u v : Point) → Near 30 u → Near 30 v → Within (2 ^ 61) (dot_of u v)
unfolding dot_of
product-within u v p q =
    add-within binary32 (2 ^ 60) (2 ^ 60) (mul binary32 u.x v.x) (mul binary32 u.y v.y) (holds-power 61 (omega arith))
    (mul-within binary32 (2 ^ 30) (2 ^ 30) u.x v.x (holds-power 60 (omega arith)) p.across q.across)
    (mul-within binary32 (2 ^ 30) (2 ^ 30) u.y v.y (holds-power 60 (omega arith)) p.along q.along)

pub angle-between-within : (u v : Point) → Near 30 u → Near 30 v → Within 4 (angle_between_of u v)
angle-between-within u v p q = between-within u v (product-within u v p q).whole

whole-turn-within : Within 8 whole_turn_f
unfolding whole_turn_f pi_f two_f of_bits
whole-turn-within = mul-within binary32 4 2 pi_f two_f (holds-power 3 (omega arith)) (record { whole = tt; bound = lit≤ tt }) (record { whole = tt; bound = lit≤ tt })

pub turned-within : (angle : Float) (sweep : Bool) → Within 4 angle → Within 16 (turned_of angle sweep)
unfolding turned_of
turned-within angle sweep w = go sweep
  where
    more : Holds binary32 12
    more = holds-scaled binary32 2 3 2 (omega arith) (omega arith) (omega arith)

    either : (b : Bool) (x : Float) → Within 12 x → Within 16 (cond b x angle)
    either true x h = within-le x (let l : 12 ≤ 16 = omega arith in l) h
    either false x h = within-le angle (let l : 4 ≤ 16 = omega arith in l) w

    go : (s : Bool) → Within 16 (turned_of angle s)
    go true = either (lt angle zero_f) (add binary32 angle whole_turn_f) (add-within binary32 4 8 angle whole_turn_f more w whole-turn-within)
    go false = either (lt zero_f angle) (sub binary32 angle whole_turn_f) (sub_within binary32 4 8 angle whole_turn_f more w whole-turn-within)
