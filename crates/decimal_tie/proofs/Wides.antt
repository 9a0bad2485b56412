-- Numbers of three words: their size, their order, and ten times one of them. Assumes nothing.
use Prim.Native.Nat.{ℕ, ◌+◌, ◌*◌, ◌^◌, ◌≤◌, ◌<◌, compare, Ordering}
use mathlib.Core.Path.{◌≡◌, ap, sym, ◌∙◌, subst}
use native.Mathlib.Nat.{add-mul, mul_assoc, mul_right_comm, mul-le-mul_right, one-mul, zero-add}
use mathlib.Core.Bool.{true, false, not, ◌&&◌}
use mathlib.Core.Logic.{⊎_elim}
use native.Mathlib.Omega.{arith}
use lib.Dec.{eqb}
use borrow.Author.Tests.{not-false, eq-eqb, eqb-true}
use Rattle.std.proofs.lemmas.Bool.{cases_lt}
use Rattle.scan.proofs.ByteLaws.{clash, both_true}
use lib.Arith.{digits_lt}
use Rattle.decimal_rounding.proofs.Compares.{compare-lt, compare-eq, compare-gt}
use Rattle.std.specs.Cmp.{ranks}
use Rattle.std.specs.Ordering.{nat_cmp, ordering_then, MatchOrdering}
use Rattle.std.specs.declared.cmp.Ordering.{Ordering as Order}
use Rattle.std.specs.declared.cmp.Ordering.TheVariants.{Less, Equal, Greater}
use Rattle.decimal_tie.specs.Words.{wide_of, Small, Tens}
use Rattle.decimal_tie.specs.Weighing.{order_of}
use Rattle.decimal_tie.specs.declared.scales.Wide.{Wide}
use Rattle.decimal_tie.specs.declared.scales.Tenfold.{Tenfold}

-- ---- ten times

up_one : (u v w x y p : ℕ) → v * 10 + x ≡ y * p + w → (u * p + v) * 10 + x ≡ (u * 10 + y) * p + w
up_one u v w x y p e = omega (arith, e, add-mul (u * 10) y p, mul_right_comm u 10 p)

horner : (o a b c p : ℕ) → ((o * p + a) * p + b) * p + c ≡ o * (p * p * p) + ((a * p + b) * p + c)
horner o a b c p =
    omega (
      arith,
      add-mul ((o * p + a) * p) b p,
      add-mul (a * p) b p,
      ap (λ (z : ℕ). z * p) (add-mul (o * p) a p),
      add-mul (o * p * p) (a * p) p,
      cubed,
    )
  where
    cubed : o * p * p * p ≡ o * (p * p * p)
    cubed = mul_assoc (o * p) p p ∙ mul_assoc o p (p * p) ∙ ap (λ (z : ℕ). o * z) (sym (mul_assoc p p p))

pub tens-wide : (w : Wide) (digit : ℕ) (r : Tenfold) → Tens w digit r → wide_of w * 10 + digit ≡ r.out * 2 ^ 150 + wide_of r.rest
tens-wide w digit r t =
    up_one (w.a * 2 ^ 50 + w.b) w.c r.rest.c digit t.one (2 ^ 50) t.at_c
    ∙ ap (λ (z : ℕ). z * 2 ^ 50 + r.rest.c) (up_one w.a w.b r.rest.b t.one t.two (2 ^ 50) t.at_b)
    ∙ ap (λ (z : ℕ). (z * 2 ^ 50 + r.rest.b) * 2 ^ 50 + r.rest.c) t.at_a
    ∙ horner r.out r.rest.a r.rest.b r.rest.c (2 ^ 50)

-- nothing passes the three words
pub tens-none : (w : Wide) (digit : ℕ) (r : Tenfold) → Tens w digit r → r.out ≤ 0 → wide_of w * 10 + digit ≡ wide_of r.rest
tens-none w digit r t h = let e : r.out ≡ 0 = omega arith in tens-wide w digit r t ∙ ap (λ (z : ℕ). z * 2 ^ 150 + wide_of r.rest) e ∙ zero-add (wide_of r.rest)

-- something does
pub tens-past : (w : Wide) (digit : ℕ) (r : Tenfold) → Tens w digit r → 0 < r.out → 2 ^ 150 ≤ wide_of w * 10 + digit
tens-past w digit r t h = subst (λ (z : ℕ). 2 ^ 150 ≤ z) (sym (tens-wide w digit r t)) (reach r.out (2 ^ 150) (wide_of r.rest) h)
  where
    reach : (g m f : ℕ) → 0 < g → m ≤ g * m + f
    reach g m f h = let e : 1 * m ≤ g * m = mul-le-mul_right m h in omega (arith, e, one-mul m)

-- ---- size and order

in_words : (a b c p : ℕ) → a < p → b < p → c < p → (a * p + b) * p + c < p * p * p
in_words a b c p h k l = digits_lt (digits_lt h k) l

pub wide-lt : (w : Wide) → Small w → wide_of w < 2 ^ 150
wide-lt w s = in_words w.a w.b w.c (2 ^ 50) s.a_lt s.b_lt s.c_lt

module _ (v w : Wide) (s : Small v) (t : Small w) where
  pub first-lt : v.a < w.a → Ordering.lt ≡ compare (wide_of v) (wide_of w)
  first-lt h = let vb = s.b_lt in let vc = s.c_lt in sym (compare-lt _ _ (omega arith))

  pub first-gt : w.a < v.a → Ordering.gt ≡ compare (wide_of v) (wide_of w)
  first-gt h = let wb = t.b_lt in let wc = t.c_lt in sym (compare-gt _ _ (omega arith))

  pub second_lt : v.a ≡ w.a → v.b < w.b → Ordering.lt ≡ compare (wide_of v) (wide_of w)
  second_lt e h = let vc = s.c_lt in sym (compare-lt _ _ (omega arith))

  pub second-gt : v.a ≡ w.a → w.b < v.b → Ordering.gt ≡ compare (wide_of v) (wide_of w)
  second-gt e h = let wc = t.c_lt in sym (compare-gt _ _ (omega arith))

  pub third-lt : v.a ≡ w.a → v.b ≡ w.b → v.c < w.c → Ordering.lt ≡ compare (wide_of v) (wide_of w)
  third-lt e f h = sym (compare-lt _ _ (omega arith))

  pub third-gt : v.a ≡ w.a → v.b ≡ w.b → w.c < v.c → Ordering.gt ≡ compare (wide_of v) (wide_of w)
  third-gt e f h = sym (compare-gt _ _ (omega arith))

  pub all-eq : v.a ≡ w.a → v.b ≡ w.b → v.c ≡ w.c → Ordering.eq ≡ compare (wide_of v) (wide_of w)
  all-eq e f g = sym (compare-eq _ _ (omega arith))

  -- the first word that differs settles it
  pub words-order : order_of (ordering_then (nat_cmp v.a w.a) (ordering_then (nat_cmp v.b w.b) (nat_cmp v.c w.c))) ≡ compare (wide_of v) (wide_of w)
  words-order = by-a (nat_cmp v.a w.a) (ranks v.a w.a)
    where
      by-c : (o : Order) → MatchOrdering o (v.c < w.c) (v.c ≡ w.c) (w.c < v.c) → v.a ≡ w.a → v.b ≡ w.b → order_of o ≡ compare (wide_of v) (wide_of w)
      by-c Less h e f = third-lt e f h
      by-c Equal h e f = all-eq e f h
      by-c Greater h e f = third-gt e f h

      by-b : (o : Order) → MatchOrdering o (v.b < w.b) (v.b ≡ w.b) (w.b < v.b) → v.a ≡ w.a → order_of (ordering_then o (nat_cmp v.c w.c)) ≡ compare (wide_of v) (wide_of w)
      by-b Less h e = second_lt e h
      by-b Equal h e = by-c (nat_cmp v.c w.c) (ranks v.c w.c) e h
      by-b Greater h e = second-gt e h

      by-a :
          (o : Order) → MatchOrdering o (v.a < w.a) (v.a ≡ w.a) (w.a < v.a)
          → order_of (ordering_then o (ordering_then (nat_cmp v.b w.b) (nat_cmp v.c w.c))) ≡ compare (wide_of v) (wide_of w)
      by-a Less h = first-lt h
      by-a Equal h = by-b (nat_cmp v.b w.b) (ranks v.b w.b) h
      by-a Greater h = first-gt h

-- ---- none

abbrev pub none : Wide
none = record { a = 0; b = 0; c = 0 }

-- as a comparison with none says
module _ (w : Wide) where
  pub something : not (eqb w.a 0 && (eqb w.b 0 && eqb w.c 0)) ≡ true → 0 < wide_of w
  something h = ⊎_elim (λ l. l) (λ l. absurd (clash h (zero-is l))) (cases_lt 0 (wide_of w))
    where
      zero-is : wide_of w ≤ 0 → not (eqb w.a 0 && (eqb w.b 0 && eqb w.c 0)) ≡ false
      zero-is l = simp (eq-eqb w.a 0 (omega arith), eq-eqb w.b 0 (omega arith), eq-eqb w.c 0 (omega arith))

  pub nothing : not (eqb w.a 0 && (eqb w.b 0 && eqb w.c 0)) ≡ false → 0 ≡ wide_of w
  nothing h =
      let all = both_true (eqb w.a 0) (eqb w.b 0 && eqb w.c 0) (not-false (eqb w.a 0 && (eqb w.b 0 && eqb w.c 0)) h) in
      let rest = both_true (eqb w.b 0) (eqb w.c 0) all.1 in
      omega (arith, eqb-true w.a 0 all.0, eqb-true w.b 0 rest.0, eqb-true w.c 0 rest.1)

pub none-small : Small none
none-small = record { a_lt = omega arith; b_lt = omega arith; c_lt = omega arith }
