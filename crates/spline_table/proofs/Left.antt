-- What is left of a scaled parameter in its span is from 0 to 1: the parameter is from its whole part to one more, and past the last span's start at most
-- one above that. Assumes nothing.
use mathlib.Core.Path.{◌≡◌, sym, ap, ◌∙◌, subst}
use mathlib.Core.Logic.{◌⊎◌, inl, inr}
use mathlib.Core.Bool.{true, false}
use Prim.Native.Nat.{ℕ, suc, ◌+◌, ◌-◌, ◌*◌, ◌/◌, ◌^◌, ◌≤◌, ◌<◌, min, zero-le}
use native.Mathlib.Nat.{le_trans, le_of_eq, le_of_lt, zero-mul, mul-one, mul_right_comm, add-mul, mul-le-mul_right, le_of_mul-le-mul_right}
use native.Mathlib.Nat.{min-le_left, min-le_right, min-eq_left, min-eq_right, div-mul-le_self, lt-div-mul-add}
use native.Mathlib.Omega.{arith}
use lib.Dec.{T, lit≤, leb, leb→le, nleb→lt, eqb→eq}
use lib.IntN.{pos}
use lib.Ieee.{Float, nan, inf, fin, binary32, sub, of_int, to_unsigned, up, down}
use lib.Ieee.Fits.{down_pos}
use lib.Ieee.Positive.{num, den, den_pos}
use Rattle.floats.specs.Floats.{zero_f}
use Rattle.floats.specs.Kinds.{nonneg}
use Rattle.floats.proofs.Tests.{decide}
use Rattle.floats.proofs.Fractions.{le→cross, cross→le}
use Rattle.floats.proofs.Rounded.{sub-rounds}
use Rattle.floats.proofs.Between.{nonneg-between}
use Rattle.floats.proofs.Constants.{zero_held}
use Rattle.floats.proofs.Whole.{whole-value}
use Rattle.floats.proofs.Within.{Within, round-within}
use Rattle.path_bounds.proofs.Roots.{holds-power}
use Rattle.spline.specs.Formula.{index_of, InSpans}

either : (a b : ℕ) → (a ≤ b) ⊎ (b ≤ a)
either a b = elim (decide (leb a b)) [ inl t ↦ inl (leb→le a b t) | inr t ↦ inr (le_of_lt (nleb→lt a b t)) ]

-- ---- the whole part
pub record Cut (whole n d : ℕ) : Type 0 where
  pub under : whole * d ≤ n
  pub over : whole < 2 ^ 64 - 1 → n < suc whole * d

capped : (n d : ℕ) → 0 < d → Cut (min (n / d) (2 ^ 64 - 1)) n d
capped n d some =
    record {
      under = le_trans (mul-le-mul_right d (min-le_left (n / d) (2 ^ 64 - 1))) (div-mul-le_self n d);
      over = λ h. elim (either (n / d) (2 ^ 64 - 1)) [
        | inl l ↦ subst (λ (w : ℕ). n < suc w * d) (sym (min-eq_left l)) (next (n / d))
        | inr l ↦ absurd (past (min (n / d) (2 ^ 64 - 1)) (2 ^ 64 - 1) (min-eq_right l) h)
      ];
    }
  where
    past : (w top : ℕ) → w ≡ top → w < top → ⊥
    past w top e h = omega arith

    next : (w : ℕ) → n < suc (n / d) * d
    next w = subst (λ (m : ℕ). n < m) (let e : n / d * d + d ≡ suc (n / d) * d = omega arith in e) (lt-div-mul-add some)

pub cut : (x : Float) → T (nonneg x) → Cut (to_unsigned 64 x) (num x) (den x)
unfolding to_unsigned
cut nan h = absurd h
cut (inf s) h = absurd h
cut (fin false m e) h = capped (m * up e) (down e) (down_pos e)
cut (fin true m e) h = record { under = le_trans (le_of_eq (zero-mul (down e))) zero-le; over = λ l. none (m * up e) (down e) (ap (λ (k : ℕ). k * up e) (eqb→eq m 0 h) ∙ zero-mul (up e)) (down_pos e) }
  where
    none : (n d : ℕ) → n ≡ 0 → 0 < d → n < suc 0 * d
    none n d q p = omega arith

-- ---- in its span
module _ (segments : ℕ) (x : Float) (i : InSpans segments x) where
  abbrev count : Float
  count = of_int binary32 (pos segments)

  some-value : T (nonneg count) × (num count * 1 ≡ segments * den count)
  some-value = whole-value binary32 segments (le_trans i.few (lit≤ tt))

  pub scaled-nonneg : T (nonneg x)
  scaled-nonneg = nonneg-between zero_f x count zero_held.nn some-value.0 i.from i.upto

  at_most : num x ≤ segments * den x
  at_most =
      let h : num x * den count ≤ num count * den x = le→cross x count scaled-nonneg some-value.0 i.upto in
      let e : num count * den x ≡ segments * den x * den count = ap (λ (k : ℕ). k * den x) (sym (mul-one (num count)) ∙ some-value.1) ∙ mul_right_comm segments (den count) (den x) in
      le_of_mul-le-mul_right (le_trans h (le_of_eq e)) (den_pos count)

  index-under : index_of segments x * den x ≤ num x
  unfolding index_of
  index-under = le_trans (mul-le-mul_right (den x) (min-le_left (to_unsigned 64 x) (segments - 1))) (cut x scaled-nonneg).under

  index-over : num x ≤ suc (index_of segments x) * den x
  unfolding index_of
  index-over = elim (either (to_unsigned 64 x) (segments - 1)) [
    | inl l ↦ subst (λ (w : ℕ). num x ≤ suc w * den x) (sym (min-eq_left l)) (le_of_lt ((cut x scaled-nonneg).over (few (to_unsigned 64 x) segments l i.few)))
    | inr l ↦ subst (λ (w : ℕ). num x ≤ suc w * den x) (sym (min-eq_right l)) (subst (λ (w : ℕ). num x ≤ w * den x) (sym (whole segments i.some)) at_most)
  ]
    where
      few : (w s : ℕ) → w ≤ s - 1 → s ≤ 4095 → w < 2 ^ 64 - 1
      few w s h k = omega arith

      whole : (s : ℕ) → 0 < s → suc (s - 1) ≡ s
      whole s h = omega arith

  index-le : index_of segments x ≤ segments - 1
  unfolding index_of
  index-le = min-le_right (to_unsigned 64 x) (segments - 1)

  pub left-within : Within 1 (sub binary32 x (of_int binary32 (pos (index_of segments x))))
  left-within =
      let n = index_of segments x in
      let w = of_int binary32 (pos n) in
      let v = whole-value binary32 n (le_trans (index-few n index-le) (lit≤ tt)) in
      let e : num w ≡ n * den w = sym (mul-one (num w)) ∙ v.1 in
      let swap : num w * den x ≡ n * den x * den w = ap (λ (k : ℕ). k * den x) e ∙ mul_right_comm n (den w) (den x) in
      let least : num w * den x ≤ num x * den w = le_trans (le_of_eq swap) (mul-le-mul_right (den w) index-under) in
      let r = sub-rounds binary32 x w scaled-nonneg v.0 (cross→le w x v.0 scaled-nonneg least) in
      let most : num x * den w ≤ n * den x * den w + den x * den w = le_trans (mul-le-mul_right (den w) index-over) (le_of_eq (step n (den x) (den w))) in
      subst (Within 1) (sym r.same)
      (round-within binary32 r.sign (num x * den w - num w * den x) (den x * den w) 1 r.above (holds-power 0 (omega arith))
      (rest (num x * den w) (num w * den x) (n * den x * den w) (den x * den w) swap most))
    where
      index-few : (n : ℕ) → n ≤ segments - 1 → n ≤ 4095
      index-few n h = let k = i.few in omega arith

      step : (n d c : ℕ) → suc n * d * c ≡ n * d * c + d * c
      step n d c = ap (λ (k : ℕ). k * c) (let e : suc n * d ≡ n * d + d = omega arith in e) ∙ add-mul (n * d) d c

      rest : (a b p c : ℕ) → b ≡ p → a ≤ p + c → a - b ≤ 1 * c
      rest a b p c e h = omega arith
