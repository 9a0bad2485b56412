-- A fraction written in digits against one over 2 ^ 150, digit by digit. m stands for 2 ^ 150 and l for a power of ten. Assumes nothing.
use Prim.Native.Nat.{ℕ, suc, ◌+◌, ◌*◌, ◌^◌, ◌≤◌, ◌<◌, compare, Ordering}
use mathlib.Core.Path.{◌≡◌, refl, ap, sym, ◌∙◌, subst}
use mathlib.Core.List.{List, [], ◌∷◌}
use native.Mathlib.Nat.{add-mul, mul_assoc, mul_comm, suc-mul, add-zero, mul-one, mul-le-mul_right, mul-lt-mul_of_pos_right, pow-suc}
use native.Mathlib.Omega.{arith}
use lib.Dec.{lit<}
use lib.ListN.{length}
use Rattle.decimal_rounding.proofs.Compares.{compare-lt, compare-gt, compare-shift}
use Rattle.decimal_digits.specs.Digits.{val}
use Rattle.decimal_digits.proofs.Values.{ten-pos}
use Rattle.decimal_tie.specs.Words.{wide_of, Tens}
use Rattle.std.specs.Cmp.{ranks}
use Rattle.std.specs.Ordering.{nat_cmp, MatchOrdering}
use Rattle.std.specs.declared.cmp.Ordering.{Ordering as Order}
use Rattle.std.specs.declared.cmp.Ordering.TheVariants.{Less, Equal, Greater}
use Rattle.decimal_tie.specs.Weighing.{order_of, against}
use Rattle.decimal_tie.specs.declared.scales.Wide.{Wide}
use Rattle.decimal_tie.specs.declared.scales.Tenfold.{Tenfold}
use Rattle.decimal_tie.proofs.Wides.{tens-wide, wide-lt}

-- ---- the leading part of both numbers settles their order, or leaves it to the rest

module _ (m : ℕ) (pos : 0 < m) (d g rest s f l : ℕ) (l-pos : 0 < l) (e : s ≡ g * m + f) (under : f < m) (below : rest < l) where
  left : (d * l + rest) * m ≡ d * (l * m) + rest * m
  left = add-mul (d * l) rest m ∙ ap (λ (z : ℕ). z + rest * m) (mul_assoc d l m)

  right : s * l ≡ g * (l * m) + f * l
  right = ap (λ (z : ℕ). z * l) e ∙ add-mul (g * m) f l ∙ ap (λ (z : ℕ). z + f * l) (mul_assoc g m l ∙ ap (λ (z : ℕ). g * z) (mul_comm m l))

  rest_lt : rest * m < l * m
  rest_lt = mul-lt-mul_of_pos_right below pos

  f_lt : f * l < l * m
  f_lt = subst (λ (z : ℕ). f * l < z) (mul_comm m l) (mul-lt-mul_of_pos_right under l-pos)

  pub lead-lt : d < g → compare ((d * l + rest) * m) (s * l) ≡ Ordering.lt
  lead-lt h = compare-lt _ _ (let w : suc d * (l * m) ≤ g * (l * m) = mul-le-mul_right (l * m) h in omega (arith, left, right, rest_lt, w, suc-mul d (l * m)))

  pub lead-gt : g < d → compare ((d * l + rest) * m) (s * l) ≡ Ordering.gt
  lead-gt h = compare-gt _ _ (let w : suc g * (l * m) ≤ d * (l * m) = mul-le-mul_right (l * m) h in omega (arith, left, right, f_lt, w, suc-mul g (l * m)))

  pub lead-eq : d ≡ g → compare ((d * l + rest) * m) (s * l) ≡ compare (rest * m) (f * l)
  lead-eq h =
      ap (λ (z : ℕ). compare z (s * l)) (left ∙ ap (λ (z : ℕ). z * (l * m) + rest * m) h)
      ∙ ap (λ (z : ℕ). compare (g * (l * m) + rest * m) z) right
      ∙ compare-shift (g * (l * m)) (rest * m) (f * l)

-- ---- one digit of a fraction

module _ (x : ℕ) (ds : List ℕ) (w : Wide) (t : Tenfold) (tens : Tens w 0 t) (below : val ds < 10 ^ length ds) where
  one : against (x ∷ ds) (wide_of w) ≡ compare ((x * 10 ^ length ds + val ds) * 2 ^ 150) (wide_of w * 10 * 10 ^ length ds)
  unfolding against val
  one = ap (λ (z : ℕ). compare ((x * 10 ^ length ds + val ds) * 2 ^ 150) z) (ap (λ (z : ℕ). wide_of w * z) (pow-suc 10 (length ds) ∙ mul_comm (10 ^ length ds) 10) ∙ sym (mul_assoc (wide_of w) 10 (10 ^ length ds)))

  ten : wide_of w * 10 ≡ t.out * 2 ^ 150 + wide_of t.rest
  ten = sym (add-zero (wide_of w * 10)) ∙ tens-wide w 0 t tens

  pub against-lt : x < t.out → against (x ∷ ds) (wide_of w) ≡ Ordering.lt
  against-lt h = one ∙ lead-lt (2 ^ 150) (lit< tt) x t.out (val ds) (wide_of w * 10) (wide_of t.rest) (10 ^ length ds) (ten-pos _) ten (wide-lt _ tens.small) below h

  pub against-gt : t.out < x → against (x ∷ ds) (wide_of w) ≡ Ordering.gt
  against-gt h = one ∙ lead-gt (2 ^ 150) (lit< tt) x t.out (val ds) (wide_of w * 10) (wide_of t.rest) (10 ^ length ds) (ten-pos _) ten (wide-lt _ tens.small) below h

  pub against-on : x ≡ t.out → against (x ∷ ds) (wide_of w) ≡ against ds (wide_of t.rest)
  unfolding against
  against-on h = one ∙ lead-eq (2 ^ 150) (lit< tt) x t.out (val ds) (wide_of w * 10) (wide_of t.rest) (10 ^ length ds) (ten-pos _) ten (wide-lt _ tens.small) below h

  -- the same by the answer of a comparison
  pub against-other : (order : Order) → order ≡ nat_cmp x t.out → (order ≡ Equal → ⊥) → order_of order ≡ against (x ∷ ds) (wide_of w)
  against-other order e other = go order (subst (λ (o : Order). MatchOrdering o (x < t.out) (x ≡ t.out) (t.out < x)) (sym e) (ranks x t.out)) other
    where
      go : (o : Order) → MatchOrdering o (x < t.out) (x ≡ t.out) (t.out < x) → (o ≡ Equal → ⊥) → order_of o ≡ against (x ∷ ds) (wide_of w)
      go Less h n = sym (against-lt h)
      go Equal h n = absurd (n refl)
      go Greater h n = sym (against-gt h)

-- numbers that compare as equal are
pub same-number : (x y : ℕ) (order : Order) → order ≡ nat_cmp x y → order ≡ Equal → x ≡ y
same-number x y order e same = subst (λ (o : Order). MatchOrdering o (x < y) (x ≡ y) (y < x)) (sym e ∙ same) (ranks x y)

-- no digit is left: the fraction is 0
pub against-end : (f : ℕ) → against [] f ≡ compare 0 f
unfolding against val
against-end f = ap (λ (z : ℕ). compare 0 z) (mul-one f)
