-- The side of the middle on which a fraction lies, from its digits; and the bits that follow. Assumes nothing.
use Prim.Native.Nat.{ℕ, zero, suc, ◌+◌, ◌*◌, ◌%◌, ◌^◌, ◌≤◌, ◌<◌, compare, Ordering}
use mathlib.Core.Path.{◌≡◌, refl, ap, sym, ◌∙◌, subst}
use mathlib.Core.Logic.{◌⊎◌, inl, inr, ⊎_elim}
use mathlib.Core.List.{List}
use mathlib.Core.Bool.{Bool, cond}
use native.Mathlib.Nat.{add-mul, mul_assoc, mul_comm, mul_right_comm, one-mul, mul-pos, add_assoc}
use native.Mathlib.Omega.{arith}
use lib.Pow.{pow-add}
use lib.ListN.{length}
use lib.Ieee.{binary32, units, round, of_bits}
use Rattle.floats.specs.Patterns.{hidden, sign_place, infinity_bits}
use Rattle.decimal_rounding.proofs.Compares.{compare-scale, lt-of-compare, eq-of-compare, gt-of-compare}
use Rattle.decimal_rounding.proofs.Halves.{near_down, near_up}
use Rattle.decimal_rounding.proofs.Pattern.{units-pattern}
use Rattle.decimal_digits.specs.Digits.{val}
use Rattle.decimal_digits.proofs.Values.{ten-pos}
use Rattle.decimal_tie.specs.Weighing.{weigh_of}
use Rattle.decimal_product.specs.Near.{Cell}
use Rattle.decimal.specs.Bits.{Nearest}

-- ---- two ways to write a fraction

-- a / b and c / d are the same, so that each compares alike with s / t
compare-cross : (a b c d s t : ℕ) → 0 < b → 0 < d → a * d ≡ c * b → compare (a * t) (s * b) ≡ compare (c * t) (s * d)
compare-cross a b c d s t B D e =
    sym (compare-scale (a * t) (s * b) d D)
    ∙ ap (λ (z : ℕ). compare z (s * b * d)) (mul_right_comm a t d ∙ ap (λ (z : ℕ). z * t) e ∙ mul_right_comm c b t)
    ∙ ap (λ (z : ℕ). compare (c * t * b) z) (mul_right_comm s b d)
    ∙ compare-scale (c * t) (s * d) b B

-- the point after count digits and moved by rise and fall is the point as it is weighed
pub weighed-is : (ds : List ℕ) (count places rise fall after zeros s : ℕ) → length ds ≡ count + places → after + fall ≡ count + rise + zeros
    → weigh_of ds after zeros s ≡ compare (val ds * 10 ^ rise * 2 ^ 150) (s * 10 ^ (places + fall))
unfolding weigh_of
weighed-is ds count places rise fall after zeros s e f =
    compare-cross (val ds * 10 ^ after) (10 ^ zeros * 10 ^ length ds) (val ds * 10 ^ rise) (10 ^ (places + fall)) s (2 ^ 150) (mul-pos (ten-pos zeros) (ten-pos (length ds))) (ten-pos (places + fall))
    (mul_assoc (val ds) (10 ^ after) (10 ^ (places + fall))
    ∙ ap (λ (z : ℕ). val ds * z) (sym (pow-add 10 after (places + fall)) ∙ ap (λ (z : ℕ). 10 ^ z) same ∙ pow-add 10 rise (zeros + length ds) ∙ ap (λ (z : ℕ). 10 ^ rise * z) (pow-add 10 zeros (length ds)))
    ∙ sym (mul_assoc (val ds) (10 ^ rise) (10 ^ zeros * 10 ^ length ds)))
  where
    same : after + (places + fall) ≡ rise + (zeros + length ds)
    same = omega (arith, e, f)

-- ---- the bits by the side

module _ (num den m k : ℕ) (d : 0 < den) (cell : Cell m k num den) where
  abbrev n : ℕ
  n = num * 2 ^ 149

  abbrev t : ℕ
  t = den * 2 ^ k

  twice : (x : ℕ) → x * 2 ^ 150 ≡ 2 * (x * 2 ^ 149)
  twice x = sym (mul_assoc x (2 ^ 149) 2) ∙ mul_comm (x * 2 ^ 149) 2

  middle : (2 * m + 1) * 2 ^ k * den ≡ 2 * (m * t) + t
  middle = mul_assoc (2 * m + 1) (2 ^ k) den ∙ ap (λ (z : ℕ). (2 * m + 1) * z) (mul_comm (2 ^ k) den) ∙ add-mul (2 * m) 1 t ∙ ap (λ (z : ℕ). z + 1 * t) (mul_assoc 2 m t) ∙ ap (λ (z : ℕ). 2 * (m * t) + z) (one-mul t)

  to : (a b : ℕ) → a ≡ 2 * n → b ≡ 2 * (m * t) + t → compare a b ≡ compare (2 * n) (2 * (m * t) + t)
  to a b e f = ap (λ (z : ℕ). compare z b) e ∙ ap (λ (z : ℕ). compare (2 * n) z) f

  fuller : (2 ^ 23 ≤ suc m) ⊎ (k ≡ 0)
  fuller = ⊎_elim (λ (h : 2 ^ 23 ≤ m). inl (weaker m h)) (λ h. inr h) cell.full
    where
      weaker : (m : ℕ) → 2 ^ 23 ≤ m → 2 ^ 23 ≤ suc m
      weaker m h = omega arith

  few : m ≤ 2 ^ 24
  few = weaker m cell.few
    where
      weaker : (m : ℕ) → m < 2 ^ 24 → m ≤ 2 ^ 24
      weaker m h = omega arith

  down : ((s : Bool) → round binary32 s num den ≡ units binary32 s m k) → Nearest num den (k * hidden + m)
  down h =
      record {
        finite_or_infinite = small m k cell.few cell.low;
        is = λ s. h s ∙ units-pattern s m k few cell.full cell.low ∙ ap (λ (z : ℕ). of_bits binary32 z) (add_assoc (cond s sign_place 0) (k * hidden) m);
      }
    where
      small : (m k : ℕ) → m < 2 ^ 24 → k ≤ 253 → k * hidden + m ≤ infinity_bits
      small m k h l = omega arith

  up : ((s : Bool) → round binary32 s num den ≡ units binary32 s (suc m) k) → Nearest num den (k * hidden + m + 1)
  up h =
      record {
        finite_or_infinite = small m k cell.few cell.low;
        is = λ s. h s ∙ units-pattern s (suc m) k cell.few fuller cell.low ∙ ap (λ (z : ℕ). of_bits binary32 z) (shift (cond s sign_place 0) k m);
      }
    where
      small : (m k : ℕ) → m < 2 ^ 24 → k ≤ 253 → k * hidden + m + 1 ≤ infinity_bits
      small m k h l = omega arith

      shift : (c k m : ℕ) → c + k * hidden + suc m ≡ c + (k * hidden + m + 1)
      shift c k m = omega arith

  pub bits-less : compare (num * 2 ^ 150) ((2 * m + 1) * 2 ^ k * den) ≡ Ordering.lt → Nearest num den (k * hidden + m)
  bits-less c =
      let h = lt-of-compare (2 * n) (2 * (m * t) + t) (sym (to _ _ (twice num) middle) ∙ c) in
      down (λ s. near_down binary32 s num den m k d cell.few cell.full cell.at_least (inl h))

  pub bits-greater : compare (num * 2 ^ 150) ((2 * m + 1) * 2 ^ k * den) ≡ Ordering.gt → Nearest num den (k * hidden + m + 1)
  bits-greater c =
      let h = gt-of-compare (2 * n) (2 * (m * t) + t) (sym (to _ _ (twice num) middle) ∙ c) in
      up (λ s. near_up binary32 s num den m k d cell.few cell.full cell.below_next (inl h))

  -- a tie: to the even one
  pub bits-equal : compare (num * 2 ^ 150) ((2 * m + 1) * 2 ^ k * den) ≡ Ordering.eq → Nearest num den (k * hidden + m + m % 2)
  bits-equal c = go (parity m)
    where
      h : 2 * n ≡ 2 * (m * t) + t
      h = eq-of-compare (2 * n) (2 * (m * t) + t) (sym (to _ _ (twice num) middle) ∙ c)

      parity : (m : ℕ) → (m % 2 ≡ 0) ⊎ (m % 2 ≡ 1)
      parity m = pick (m % 2) (lt m)
        where
          lt : (m : ℕ) → m % 2 < 2
          lt m = omega arith

          pick : (r : ℕ) → r < 2 → (r ≡ 0) ⊎ (r ≡ 1)
          pick zero l = inl refl
          pick (suc zero) l = inr refl
          pick (suc (suc r)) l = absurd (omega arith)

      even : (m k : ℕ) → m % 2 ≡ 0 → k * hidden + m ≡ k * hidden + m + m % 2
      even m k e = omega arith

      go : (m % 2 ≡ 0) ⊎ (m % 2 ≡ 1) → Nearest num den (k * hidden + m + m % 2)
      go (inl e) = subst (λ (b : ℕ). Nearest num den b) (even m k e) (down (λ s. near_down binary32 s num den m k d cell.few cell.full cell.at_least (inr (h, e))))
      go (inr e) = subst (λ (z : ℕ). Nearest num den (k * hidden + m + z)) (sym e) (up (λ s. near_up binary32 s num den m k d cell.few cell.full cell.below_next (inr (h, e))))
