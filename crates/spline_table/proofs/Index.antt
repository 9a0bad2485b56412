-- A scaled parameter from a whole number up to below the next is in the span of that number. Assumes nothing.
use mathlib.Core.Path.{◌≡◌, sym, ap, ◌∙◌, subst}
use Prim.Native.Nat.{ℕ, suc, ◌+◌, ◌-◌, ◌*◌, ◌^◌, ◌≤◌, ◌<◌, min}
use native.Mathlib.Nat.{le_trans, le_of_eq, mul-one, mul_right_comm, mul-le-mul_right, le_of_mul-le-mul_right, min-eq_left, lt_of_not-le, not-le_of_lt}
use native.Mathlib.Numerals.{add-one}
use native.Mathlib.Omega.{arith}
use lib.Dec.{T, lit≤}
use lib.IntN.{pos}
use lib.Ieee.{Float, binary32, le, lt, of_int, to_unsigned}
use lib.Ieee.Positive.{num, den, den_pos}
use Rattle.floats.specs.Kinds.{nonneg}
use Rattle.floats.proofs.Fractions.{le→cross, lt→cross}
use Rattle.floats.proofs.Whole.{whole-value}
use Rattle.spline.specs.Formula.{index_of, InSpans}
use Rattle.spline_table.proofs.Left.{cut, scaled-nonneg}

-- ---- the whole part of a fraction between two whole numbers
module _ (x : Float) (p : T (nonneg x)) (w : ℕ) (few : w ≤ 4096) where
  abbrev whole : Float
  whole = of_int binary32 (pos w)

  value : T (nonneg whole) × (num whole * 1 ≡ w * den whole)
  value = whole-value binary32 w (le_trans few (lit≤ tt))

  times : num whole * den x ≡ w * den x * den whole
  times = ap (λ (k : ℕ). k * den x) (sym (mul-one (num whole)) ∙ value.1) ∙ mul_right_comm w (den whole) (den x)

  pub whole-under : T (le whole x) → w * den x ≤ num x
  whole-under h = le_of_mul-le-mul_right (le_trans (le_of_eq (sym times)) (le→cross whole x value.0 p h)) (den_pos whole)

  pub whole-over : T (lt x whole) → num x < w * den x
  whole-over h = lt_of_not-le (λ (g : w * den x ≤ num x).
      not-le_of_lt (lt→cross x whole p value.0 h) (le_trans (le_of_eq times) (mul-le-mul_right (den whole) g)))

same-part : (t w n d : ℕ) → t * d ≤ n → n < suc w * d → t ≤ w
same-part t w n d under over = elim-le (lt_of_not-le (λ (g : suc w ≤ t). not-le_of_lt over (le_trans (mul-le-mul_right d g) under)))
  where
    elim-le : t < suc w → t ≤ w
    elim-le h = omega arith

pub index_is : (segments : ℕ) (x : Float) → InSpans segments x → (w : ℕ) → w < segments
    → T (le (of_int binary32 (pos w)) x) → T (lt x (of_int binary32 (pos (w + 1)))) → index_of segments x ≡ w
unfolding index_of
index_is segments x i w inside low high =
    ap (λ (u : ℕ). min u (segments - 1)) whole_is ∙ min-eq_left (omega arith)
  where
    few : segments ≤ 4095
    few = i.few

    positive : T (nonneg x)
    positive = scaled-nonneg segments x i

    over : num x < suc w * den x
    over = subst (λ (k : ℕ). num x < k * den x) (add-one w) (whole-over x positive (w + 1) (omega arith) high)

    most : to_unsigned 64 x ≤ w
    most = same-part (to_unsigned 64 x) w (num x) (den x) (cut x positive).under over

    least : w ≤ to_unsigned 64 x
    least = same-part w (to_unsigned 64 x) (num x) (den x) (whole-under x positive w (omega arith) low) ((cut x positive).over (far (to_unsigned 64 x) most))
      where
        far : (t : ℕ) → t ≤ w → t < 2 ^ 64 - 1
        far t h = omega arith

    whole_is : to_unsigned 64 x ≡ w
    whole_is = both (to_unsigned 64 x) most least
      where
        both : (t : ℕ) → t ≤ w → w ≤ t → t ≡ w
        both t a b = omega arith
