-- Atan2 by steps keeps the rule of document 01, for every pair of f32: the theorems that a reader looks for. Assumes nothing.
use mathlib.Core.Path.{◌≡◌, refl, sym, ap, ◌∙◌, subst}
use Prim.Native.Nat.{ℕ, zero, suc, ◌+◌, ◌*◌, ◌^◌, ◌≤◌, ◌<◌}
use native.Mathlib.Nat.{le_refl, le_trans, le_of_eq, lt_of_lt_of_le, zero-mul, mul-zero, mul-pos, zero-add, le-add_left, le-add_right, mul_right_comm, mul-le-mul_right, le_of_mul-le-mul_right, eq_of_mul-eq-mul_right}
use native.Mathlib.Omega.{arith}
use mathlib.Core.Bool.{Bool, true, false, not, cond, ◌&&◌}
use lib.Dec.{T, ltb, eqb, eqb→eq, lit≤}
use lib.Pow.{pow_pos}
use lib.Ieee.{Float, nan, inf, fin, up, down, binary32, fits, of_bits, div}
use lib.Ieee.Bits.{is_true, is_false}
use lib.Ieee.Fits.{up_pos, down_pos}
use lib.Ieee.Scale.{finite}
use borrow.Author.Tests.{leb-true, le-leb, eq-eqb, ne_eqb}
use Rattle.floats.specs.Patterns.{sign_place}
use Rattle.floats.specs.Kinds.{is_zero}
use Rattle.trig_rule.specs.Rule.{Is}
use Rattle.trig_rule.proofs.Patterns.{bit}
use Rattle.atan2_rule.specs.Rule.{pi_units, Atan2Rule}
use Rattle.atan2_rule.specs.Steps.{plain, sign_bit, field, top_of, part_of, pi_bits, guess_of, angle_bits, tiny, slanted, level, atan2_of}
use Rattle.atan2_rule.proofs.Sizes.{wide_bits, plain-is, sign-is, wide-zero, field-low, Pair, pair}
use Rattle.atan2_rule.proofs.Exact.{Cut}
use Rattle.atan2_rule.proofs.Whole.{whole}
use Rattle.atan2_rule.proofs.Answers.{signed-value, guess-range, slanted-rule, small-rule, tiny-rule, pi-rule}

-- ---- the definition's cases, for finite y and x
both-finite : (y x : Float) → T (finite y) → T (finite x) → finite y && finite x ≡ true
both-finite y x fy fx = ap (λ (b : Bool). b && finite x) (is_true (finite y) fy) ∙ is_true (finite x) fx

at-finite : (y x : Float) → T (finite y) → T (finite x) → atan2_of y x ≡ cond (eqb (plain y) 0) (level y (plain x) (sign_bit y) (sign_bit x)) (slanted y x (plain y) (plain x) (sign_bit y) (sign_bit x))
unfolding atan2_of
at-finite y x fy fx =
    ap (λ (t : Bool). cond t (cond (eqb (plain y) 0) (level y (plain x) (sign_bit y) (sign_bit x)) (slanted y x (plain y) (plain x) (sign_bit y) (sign_bit x))) nan) (both-finite y x fy fx)

finite-of : (x : Float) (s : Bool) (N : ℕ) → Is x s N → T (finite x)
finite-of nan s N h = h
finite-of (inf t) s N h = h
finite-of (fin t m e) s N h = tt

-- bits of a number that is not zero are not 0
wide-pos : (N : ℕ) → 0 < N → wide_bits (N * 2 ^ 925) ≡ 0 → ⊥
wide-pos N h e = none (le_trans (field-low N h) (le_of_eq (ap field e)))
  where
    none : 874 ≤ 0 → ⊥
    none k = omega arith

module _ (y x : Float) (p q : Bool) (Y X : ℕ) (hy : Is y p Y) (hx : Is x q X) (sy : Y < 2 ^ 277) (sx : X < 2 ^ 277) where
  abbrev a : ℕ
  a = wide_bits (Y * 2 ^ 925)

  abbrev b : ℕ
  b = wide_bits (X * 2 ^ 925)

  abbrev u : ℕ
  u = part_of (wide_bits (Y * 2 ^ 925)) (top_of (wide_bits (Y * 2 ^ 925)) (wide_bits (X * 2 ^ 925)))

  abbrev v : ℕ
  v = part_of (wide_bits (X * 2 ^ 925)) (top_of (wide_bits (Y * 2 ^ 925)) (wide_bits (X * 2 ^ 925)))

  -- the definition, with the bits by the sizes
  by-sizes : atan2_of y x ≡ cond (eqb a 0) (level y b (bit p) (bit q)) (slanted y x a b (bit p) (bit q))
  by-sizes =
      at-finite y x (finite-of y p Y hy) (finite-of x q X hx)
      ∙ ap (λ (n : ℕ). cond (eqb n 0) (level y (plain x) (sign_bit y) (sign_bit x)) (slanted y x n (plain x) (sign_bit y) (sign_bit x))) (plain-is y p Y hy sy)
      ∙ ap (λ (n : ℕ). cond (eqb a 0) (level y n (sign_bit y) (sign_bit x)) (slanted y x a n (sign_bit y) (sign_bit x))) (plain-is x q X hx sx)
      ∙ ap (λ (n : ℕ). cond (eqb a 0) (level y b n (sign_bit x)) (slanted y x a b n (sign_bit x))) (sign-is y p Y hy sy)
      ∙ ap (λ (n : ℕ). cond (eqb a 0) (level y b (bit p) n) (slanted y x a b (bit p) n)) (sign-is x q X hx sx)

  -- ---- y above or below the axis
  tiny-right : (r : Bool) (u v : ℕ) → tiny u v (bit r) ≡ true → Is x r X → Pair Y X u v → Atan2Rule y x (div binary32 y x)
  tiny-right false u v e h pr = tiny-rule y x p Y X u v hy h pr (let k = leb-true (u * 8192 + 0 * 2 ^ 30) v e in near u v k)
    where
      near : (u v : ℕ) → u * 8192 + 0 * 2 ^ 30 ≤ v → u * 8192 ≤ v
      near u v k = omega arith
  tiny-right true u v e h pr = absurd (none u v (leb-true (u * 8192 + 1 * 2 ^ 30) v e) pr.run-under)
    where
      none : (u v : ℕ) → u * 8192 + 1 * 2 ^ 30 ≤ v → v < 2 ^ 30 → ⊥
      none u v k l = omega arith

  slanted-meets : Pair Y X u v → Atan2Rule y x (slanted y x a b (bit p) (bit q))
  slanted-meets pr = go (tiny u v (bit q)) refl
    where
      g : ℕ
      g = guess_of a b (ltb v u) (bit q)

      go : (t : Bool) → tiny u v (bit q) ≡ t → Atan2Rule y x (cond t (div binary32 y x) (of_bits binary32 (bit p * sign_place + angle_bits u v (bit q) g)))
      go true e = tiny-right q u v e hx pr
      go false e = let r = guess-range a b (ltb v u) (bit q) in slanted-rule y x p q Y X u v hy hx pr g r.0 r.1 e

  slanted-answer : 0 < Y → atan2_of y x ≡ slanted y x a b (bit p) (bit q)
  slanted-answer h = by-sizes ∙ ap (λ (t : Bool). cond t (level y b (bit p) (bit q)) (slanted y x a b (bit p) (bit q))) (ne_eqb a 0 (wide-pos Y h))

  -- ---- y on the axis
  level-answer : Y ≡ 0 → atan2_of y x ≡ level y b (bit p) (bit q)
  level-answer e = by-sizes ∙ ap (λ (t : Bool). cond t (level y b (bit p) (bit q)) (slanted y x a b (bit p) (bit q))) (eq-eqb a 0 (ap (λ (n : ℕ). wide_bits (n * 2 ^ 925)) e ∙ ap wide_bits (zero-mul (2 ^ 925)) ∙ wide-zero))

  level-is : 0 < X → level y b (bit p) (bit q) ≡ cond (eqb (bit q) 0) y (of_bits binary32 (bit p * sign_place + pi_bits))
  level-is h = ap (λ (t : Bool). cond t (of_bits binary32 0) (cond (eqb (bit q) 0) y (of_bits binary32 (bit p * sign_place + pi_bits)))) (ne_eqb b 0 (wide-pos X h))

-- ---- the sizes as variables, so that y's may be 0
zero-le : (n : ℕ) → 0 ≤ n
zero-le n = omega arith

level-meets : (y x : Float) (p q : Bool) (X : ℕ) → Is y p 0 → Is x q X → X < 2 ^ 277 → 0 < X → Atan2Rule y x (cond (eqb (bit q) 0) y (of_bits binary32 (bit p * sign_place + pi_bits)))
level-meets y x p false X hy hx sx pos =
    small-rule y x y p 0 X 0 hy hx hy (lit≤ tt) pos (zero-le X) (le_trans (le_of_eq (mul-zero (2 ^ 149))) (zero-le (0 * X + 2 ^ 127 * X))) (le_trans (le_of_eq (zero-mul X)) (zero-le (2 ^ 149 * 0 + 2 ^ 127 * X)))
level-meets y x p true X hy hx sx pos = pi-rule y x p X _ _ hy hx (pair 0 X (le_trans pos (le-add_left X 0)))

meets : (y x : Float) (p q : Bool) (Y X : ℕ) → Is y p Y → Is x q X → Y < 2 ^ 277 → X < 2 ^ 277 → 0 < Y + X → Atan2Rule y x (atan2_of y x)
meets y x p q zero X hy hx sy sx some =
    let pos : 0 < X = le_trans some (le_of_eq (zero-add X)) in
    subst (λ (z : Float). Atan2Rule y x z) (sym (level-answer y x p q 0 X hy hx sy sx refl ∙ level-is y x p q 0 X hy hx sy sx pos)) (level-meets y x p q X hy hx sx pos)
meets y x p q (suc Y) X hy hx sy sx some =
    subst (λ (z : Float). Atan2Rule y x z) (sym (slanted-answer y x p q (suc Y) X hy hx sy sx (omega arith)))
    (slanted-meets y x p q (suc Y) X hy hx sy sx (pair (suc Y) X some))

-- ---- zeros
zero-units : (x : Float) (s : Bool) (N : ℕ) → Is x s N → T (is_zero x) → N ≡ 0
zero-units nan s N h z = absurd h
zero-units (inf t) s N h z = absurd h
zero-units (fin t m e) s N h z = no-product N (down e) (down_pos e) (sym h.1 ∙ ap (λ (n : ℕ). n * up e * 2 ^ 149) (eqb→eq m 0 z) ∙ ap (λ (n : ℕ). n * 2 ^ 149) (zero-mul (up e)) ∙ zero-mul (2 ^ 149))
  where
    no-product : (n d : ℕ) → 0 < d → n * d ≡ 0 → n ≡ 0
    no-product zero d pos k = refl
    no-product (suc n) d pos k = absurd (none (lt_of_lt_of_le (mul-pos {m = suc n} (omega arith) pos) (le_of_eq k)))
      where
        none : 0 < 0 → ⊥
        none g = omega arith

units-zero : (x : Float) (s : Bool) → Is x s 0 → T (is_zero x)
units-zero nan s h = absurd h
units-zero (inf t) s h = absurd h
units-zero (fin t zero e) s h = tt
units-zero (fin t (suc m) e) s h = absurd (none (lt_of_lt_of_le (mul-pos (mul-pos {m = suc m} (omega arith) (up_pos e)) (pow_pos 149)) (le_of_eq (h.1 ∙ zero-mul (down e)))))
  where
    none : 0 < 0 → ⊥
    none g = omega arith

not-both : (y x : Float) (p q : Bool) (Y X : ℕ) → Is y p Y → Is x q X → T (not (is_zero y && is_zero x)) → 0 < Y + X
not-both y x p q zero zero hy hx n = absurd (none (is_zero y) (is_zero x) (units-zero y p hy) (units-zero x q hx) n)
  where
    none : (a b : Bool) → T a → T b → T (not (a && b)) → ⊥
    none true true s t u = u
    none true false s t u = t
    none false b s t u = s
not-both y x p q zero (suc X) hy hx n = omega arith
not-both y x p q (suc Y) X hy hx n = omega arith

-- a value has one size
units-same : (x : Float) (s t : Bool) (M N : ℕ) → Is x s M → Is x t N → M ≡ N
units-same nan s t M N h k = absurd h
units-same (inf r) s t M N h k = absurd h
units-same (fin r m e) s t M N h k = eq_of_mul-eq-mul_right (down e) (down_pos e) M N (sym h.1 ∙ k.1)

-- ---- the theorems
-- "PI is 40490FDB"
pub pi-units : Is (of_bits binary32 1078530011) false pi_units
pi-units = signed-value pi_bits (lit≤ tt) (le_refl pi_bits) false

-- "Atan2 of finite y, x, not both 0, is an a in [-PI, PI] .."
pub atan2-meets-rule : (y x : Float) → T (fits binary32 y) → T (fits binary32 x) → T (finite y) → T (finite x) → T (not (is_zero y && is_zero x)) → Atan2Rule y x (atan2_of y x)
atan2-meets-rule y x fy fx ny nx n =
    let a = whole y fy ny in
    let b = whole x fx nx in
    meets y x a.minus b.minus a.units b.units a.is b.is a.small b.small (not-both y x a.minus b.minus a.units b.units a.is b.is n)

-- "Not finite: NaN."
pub atan2-not-finite : (y x : Float) → T (not (finite y && finite x)) → atan2_of y x ≡ nan
unfolding atan2_of
atan2-not-finite y x h = simp (is_false (finite y && finite x) h)

-- "Both zero: 0."
pub atan2-both-zero : (y x : Float) → T (fits binary32 y) → T (fits binary32 x) → T (finite y) → T (finite x) → T (is_zero y) → T (is_zero x) → atan2_of y x ≡ of_bits binary32 0
atan2-both-zero y x fy fx ny nx zy zx =
    let a = whole y fy ny in
    let b = whole x fx nx in
    let p = a.minus in
    let q = b.minus in
    let ez : a.units ≡ 0 = zero-units y p a.units a.is zy in
    let fz : b.units ≡ 0 = zero-units x q b.units b.is zx in
    level-answer y x p q a.units b.units a.is b.is a.small b.small ez
    ∙ ap (λ (t : Bool). cond t (of_bits binary32 0) (cond (eqb (bit q) 0) y (of_bits binary32 (bit p * sign_place + pi_bits))))
    (eq-eqb (wide_bits (b.units * 2 ^ 925)) 0 (ap (λ (n : ℕ). wide_bits (n * 2 ^ 925)) fz ∙ ap wide_bits (zero-mul (2 ^ 925)) ∙ wide-zero))

-- "for y zero it is zero with x above 0 and PI in size with x below": y is a zero of the sign p, and x is X units, above 0 or below
module _ (y x : Float) (p : Bool) (X : ℕ) (hy : Is y p 0) (fx : T (fits binary32 x)) (pos : 0 < X) where
  on-axis : (q : Bool) → Is x q X → atan2_of y x ≡ cond (eqb (bit q) 0) y (of_bits binary32 (bit p * sign_place + pi_bits))
  on-axis q hx =
      let b = whole x fx (finite-of x q X hx) in
      let same = units-same x q b.minus X b.units hx b.is in
      let sx : X < 2 ^ 277 = subst (λ (n : ℕ). n < 2 ^ 277) (sym same) b.small in
      level-answer y x p q 0 X hy hx (lit≤ tt) sx refl ∙ level-is y x p q 0 X hy hx (lit≤ tt) sx pos

  pub atan2-zero-right : Is x false X → atan2_of y x ≡ y
  atan2-zero-right hx = on-axis false hx

  pub atan2-zero-left : Is x true X → Is (atan2_of y x) p pi_units
  atan2-zero-left hx = subst (λ (z : Float). Is z p pi_units) (sym (on-axis true hx)) (signed-value pi_bits (lit≤ tt) (le_refl pi_bits) p)

-- ---- tiny angles keep every digit of the quotient, subnormal ones too
tiny-parts : (Y X u v G H : ℕ) → 0 < G → Cut u Y G H → Cut v X G H → Y * 2 ^ 14 ≤ X → u * 8192 ≤ v
tiny-parts Y X u v G H pos cy cx h =
    few
    (le_of_mul-le-mul_right {k = G}
    (le_trans (le_of_eq (mul_right_comm u (2 ^ 14) G))
    (le_trans (mul-le-mul_right (2 ^ 14) cy.low) (le_trans (le_of_eq (mul_right_comm Y H (2 ^ 14))) (le_trans (mul-le-mul_right H h) cx.high))))
    pos)
  where
    few : u * 2 ^ 14 ≤ v + 1 → u * 8192 ≤ v
    few k = omega arith

pub atan2-tiny : (y x : Float) (p : Bool) (Y X : ℕ) → T (fits binary32 y) → T (fits binary32 x) → Is y p Y → Is x false X → 0 < Y → Y * 2 ^ 14 ≤ X → atan2_of y x ≡ div binary32 y x
atan2-tiny y x p Y X fy fx hy hx pos h =
    let sy = under y p Y fy hy in
    let sx = under x false X fx hx in
    let a = wide_bits (Y * 2 ^ 925) in
    let b = wide_bits (X * 2 ^ 925) in
    let u = part_of a (top_of a b) in
    let v = part_of b (top_of a b) in
    let pr : Pair Y X u v = pair Y X (le_trans pos (le-add_right Y X)) in
    slanted-answer y x p false Y X hy hx sy sx pos
    ∙ ap (λ (t : Bool). cond t (div binary32 y x) (of_bits binary32 (bit p * sign_place + angle_bits u v 0 (guess_of a b (ltb v u) 0))))
    (le-leb (u * 8192 + 0 * 2 ^ 30) v (near u v (tiny-parts Y X u v pr.scale (2 ^ 925) pr.scale-pos pr.rise pr.run h)))
  where
    near : (u v : ℕ) → u * 8192 ≤ v → u * 8192 + 0 * 2 ^ 30 ≤ v
    near u v k = omega arith

    under : (z : Float) (s : Bool) (N : ℕ) → T (fits binary32 z) → Is z s N → N < 2 ^ 277
    under z s N f i = let w = whole z f (finite-of z s N i) in subst (λ (n : ℕ). n < 2 ^ 277) (sym (units-same z s w.minus N w.units i w.is)) w.small
