-- A number's digits against another number: whole digits gathered one by one, zeros after the point taken off one by one, and where each leaves the
-- order to the fraction. m stands for 2 ^ 150. Assumes nothing.
use Prim.Native.Nat.{ℕ, suc, ◌+◌, ◌*◌, ◌^◌, ◌≤◌, ◌<◌, compare, Ordering}
use mathlib.Core.Path.{◌≡◌, refl, ap, sym, ◌∙◌}
use mathlib.Core.List.{List, [], ◌∷◌}
use native.Mathlib.Nat.{add-mul, mul_assoc, mul_comm, mul_right_comm, mul-one, one-mul, zero-mul, zero-add, mul-le-mul, mul-le-mul_left, mul-le-mul_right, mul-lt-mul_of_pos_right, le_trans, le_of_eq, lt_of_lt_of_le, pow-suc}
use native.Mathlib.Omega.{arith}
use lib.Dec.{lit<}
use lib.Arith.{digits_lt}
use lib.ListN.{length}
use Rattle.decimal_rounding.proofs.Compares.{compare-lt, compare-gt, compare-scale, lt-of-compare, gt-of-compare}
use Rattle.decimal_digits.specs.Digits.{val}
use Rattle.decimal_digits.proofs.Values.{ten-pos}
use Rattle.decimal_tie.specs.Weighing.{against, weigh_of, partly, first, others, order_of}
use Rattle.std.specs.declared.cmp.Ordering.{Ordering as Order}
use Rattle.std.specs.declared.cmp.Ordering.TheVariants.{Less, Equal, Greater}
use Rattle.decimal_tie.proofs.Against.{lead-lt, lead-gt, lead-eq}

-- ---- whole digits

pub partly-start : (ds : List ℕ) (count s : ℕ) → weigh_of ds count 0 s ≡ partly 0 ds count s
unfolding weigh_of partly
partly-start ds count s =
    ap (λ (z : ℕ). compare (val ds * 10 ^ count * 2 ^ 150) (s * z)) (one-mul (10 ^ length ds))
    ∙ ap (λ (z : ℕ). compare (z * 10 ^ count * 2 ^ 150) (s * 10 ^ length ds)) (sym (ap (λ (z : ℕ). z + val ds) (zero-mul (10 ^ length ds)) ∙ zero-add (val ds)))

step-on : (w : ℕ) (ds : List ℕ) (count s : ℕ) → partly w ds (suc count) s ≡ partly (w * 10 + first ds) (others ds) count s
unfolding partly val
step-on w [] count s =
    ap (λ (z : ℕ). compare ((w * 1 + 0) * z * 2 ^ 150) (s * 1)) (pow-suc 10 count)
    ∙ ap (λ (z : ℕ). compare (z * 2 ^ 150) (s * 1)) (move (10 ^ count))
  where
    move : (c : ℕ) → (w * 1 + 0) * (c * 10) ≡ ((w * 10 + 0) * 1 + 0) * c
    move c = ap (λ (z : ℕ). z * (c * 10)) (plain w) ∙ ap (λ (z : ℕ). w * z) (mul_comm c 10) ∙ sym (mul_assoc w 10 c) ∙ ap (λ (z : ℕ). z * c) (ten w)
      where
        plain : (w : ℕ) → w * 1 + 0 ≡ w
        plain w = omega arith

        ten : (w : ℕ) → w * 10 ≡ (w * 10 + 0) * 1 + 0
        ten w = omega arith
step-on w (x ∷ ds) count s =
    ap (λ (z : ℕ). compare ((w * z + (x * 10 ^ length ds + val ds)) * 10 ^ suc count * 2 ^ 150) (s * z)) (pow-suc 10 (length ds))
    ∙ ap (λ (z : ℕ). compare ((w * (10 ^ length ds * 10) + (x * 10 ^ length ds + val ds)) * z * 2 ^ 150) (s * (10 ^ length ds * 10))) (pow-suc 10 count)
    ∙ ap (λ (z : ℕ). compare z (s * (10 ^ length ds * 10))) (left (10 ^ length ds) (10 ^ count) (2 ^ 150))
    ∙ ap (λ (z : ℕ). compare (((w * 10 + x) * 10 ^ length ds + val ds) * 10 ^ count * 2 ^ 150 * 10) z) (sym (mul_assoc s (10 ^ length ds) 10))
    ∙ compare-scale (((w * 10 + x) * 10 ^ length ds + val ds) * 10 ^ count * 2 ^ 150) (s * 10 ^ length ds) 10 (lit< tt)
  where
    sum : (l : ℕ) → w * (l * 10) + (x * l + val ds) ≡ (w * 10 + x) * l + val ds
    sum l = omega (arith, sym (mul_assoc w l 10), add-mul (w * 10) x l, mul_right_comm w 10 l)

    left : (l c m : ℕ) → (w * (l * 10) + (x * l + val ds)) * (c * 10) * m ≡ ((w * 10 + x) * l + val ds) * c * m * 10
    left l c m = ap (λ (z : ℕ). z * (c * 10) * m) (sum l) ∙ turn ((w * 10 + x) * l + val ds) c m
      where
        turn : (y c m : ℕ) → y * (c * 10) * m ≡ y * c * m * 10
        turn y c m = ap (λ (z : ℕ). z * m) (sym (mul_assoc y c 10)) ∙ mul_right_comm (y * c) 10 m

pub partly-on : (w : ℕ) (ds : List ℕ) (count more s : ℕ) → count ≡ suc more → partly w ds count s ≡ partly (w * 10 + first ds) (others ds) more s
partly-on w ds count more s e = ap (λ (z : ℕ). partly w ds z s) e ∙ step-on w ds more s

-- none is left to take
pub partly-left : (w : ℕ) (ds : List ℕ) (count s : ℕ) → count ≤ 0 → partly w ds count s ≡ partly w ds 0 s
partly-left w ds count s h = let e : count ≡ 0 = omega arith in ap (λ (z : ℕ). partly w ds z s) e

pub partly-beyond : (w : ℕ) (ds : List ℕ) (count s : ℕ) → 2 ^ 150 ≤ w → s < 2 ^ 300 → partly w ds count s ≡ Ordering.gt
unfolding partly
partly-beyond w ds count s h l = compare-gt _ _ (past w (val ds) s (10 ^ length ds) (10 ^ count) (2 ^ 150) (ten-pos (length ds)) (ten-pos count) h l)
  where
    weak : (x v : ℕ) → x ≤ x + v
    weak x v = omega arith

    past : (w v s l c m : ℕ) → 0 < l → 0 < c → m ≤ w → s < m * m → s * l < (w * l + v) * c * m
    past w v s l c m L C h g =
        lt_of_lt_of_le (mul-lt-mul_of_pos_right g L)
        (le_trans (le_of_eq (mul_right_comm m m l))
        (mul-le-mul_right m
        (le_trans (mul-le-mul_right l h)
        (le_trans (weak (w * l) v) (le_trans (le_of_eq (sym (mul-one (w * l + v)))) (mul-le-mul_left (w * l + v) C))))))

-- ---- no whole digit is left

module _ (w : ℕ) (ds : List ℕ) (g f : ℕ) (under : f < 2 ^ 150) (below : val ds < 10 ^ length ds) where
  partly_none : partly w ds 0 (g * 2 ^ 150 + f) ≡ compare ((w * 10 ^ length ds + val ds) * 2 ^ 150) ((g * 2 ^ 150 + f) * 10 ^ length ds)
  unfolding partly
  partly_none = ap (λ (z : ℕ). compare (z * 2 ^ 150) ((g * 2 ^ 150 + f) * 10 ^ length ds)) (mul-one (w * 10 ^ length ds + val ds))

  pub partly-lt : w < g → partly w ds 0 (g * 2 ^ 150 + f) ≡ Ordering.lt
  partly-lt h = partly_none ∙ lead-lt (2 ^ 150) (lit< tt) w g (val ds) (g * 2 ^ 150 + f) f (10 ^ length ds) (ten-pos _) refl under below h

  pub partly-gt : g < w → partly w ds 0 (g * 2 ^ 150 + f) ≡ Ordering.gt
  partly-gt h = partly_none ∙ lead-gt (2 ^ 150) (lit< tt) w g (val ds) (g * 2 ^ 150 + f) f (10 ^ length ds) (ten-pos _) refl under below h

  pub partly-eq : w ≡ g → partly w ds 0 (g * 2 ^ 150 + f) ≡ against ds f
  unfolding against
  partly-eq h = partly_none ∙ lead-eq (2 ^ 150) (lit< tt) w g (val ds) (g * 2 ^ 150 + f) f (10 ^ length ds) (ten-pos _) refl under below h

  -- the same by the answer of a comparison
  pub partly-other : (order : Order) → order_of order ≡ compare w g → (order ≡ Equal → ⊥) → order_of order ≡ partly w ds 0 (g * 2 ^ 150 + f)
  partly-other Less e n = sym (partly-lt (lt-of-compare _ _ (sym e)))
  partly-other Equal e n = absurd (n refl)
  partly-other Greater e n = sym (partly-gt (gt-of-compare _ _ (sym e)))

-- ---- zeros after the point

-- what reaches m is above every fraction below 1
module _ (v l : ℕ) (below : v < l) where
  over : (f t m : ℕ) → 0 < m → m ≤ f → 0 < t → v * m < f * (t * l)
  over f t m M h T =
      lt_of_lt_of_le (mul-lt-mul_of_pos_right below M)
      (le_trans (le_of_eq (mul_comm l m)) (mul-le-mul h (le_trans (le_of_eq (sym (one-mul l))) (mul-le-mul_right l T))))

  pub over-whole : (g f zeros : ℕ) → 0 < g → compare (v * 2 ^ 150) ((g * 2 ^ 150 + f) * (10 ^ zeros * l)) ≡ Ordering.lt
  over-whole g f zeros h = compare-lt _ _ (over (g * 2 ^ 150 + f) (10 ^ zeros) (2 ^ 150) (lit< tt) (reach g (2 ^ 150) f h) (ten-pos zeros))
    where
      reach : (g m f : ℕ) → 0 < g → m ≤ g * m + f
      reach g m f h = let e : 1 * m ≤ g * m = mul-le-mul_right m h in omega (arith, e, one-mul m)

  ten-more : (f zeros : ℕ) → f * (10 ^ suc zeros * l) ≡ f * 10 * (10 ^ zeros * l)
  ten-more f zeros = ap (λ (z : ℕ). f * (z * l)) (pow-suc 10 zeros ∙ mul_comm (10 ^ zeros) 10) ∙ ap (λ (z : ℕ). f * z) (mul_assoc 10 (10 ^ zeros) l) ∙ sym (mul_assoc f 10 (10 ^ zeros * l))

  module _ (f rest zeros more : ℕ) (one : zeros ≡ suc more) where
    one-off : compare (v * 2 ^ 150) (f * (10 ^ zeros * l)) ≡ compare (v * 2 ^ 150) (f * 10 * (10 ^ more * l))
    one-off = ap (λ (x : ℕ). compare (v * 2 ^ 150) x) (ap (λ (x : ℕ). f * (10 ^ x * l)) one ∙ ten-more f more)

    pub lower-beyond : (out : ℕ) → f * 10 ≡ out * 2 ^ 150 + rest → 0 < out → compare (v * 2 ^ 150) (f * (10 ^ zeros * l)) ≡ Ordering.lt
    lower-beyond out e h = one-off ∙ ap (λ (x : ℕ). compare (v * 2 ^ 150) (x * (10 ^ more * l))) e ∙ over-whole out rest more h

    pub lower-on : f * 10 ≡ rest → compare (v * 2 ^ 150) (f * (10 ^ zeros * l)) ≡ compare (v * 2 ^ 150) (rest * (10 ^ more * l))
    lower-on e = one-off ∙ ap (λ (x : ℕ). compare (v * 2 ^ 150) (x * (10 ^ more * l))) e

-- none is left to take off
pub lower-end : (v l f zeros : ℕ) → zeros ≤ 0 → compare (v * 2 ^ 150) (f * (10 ^ zeros * l)) ≡ compare (v * 2 ^ 150) (f * l)
lower-end v l f zeros h = let e : zeros ≡ 0 = omega arith in ap (λ (z : ℕ). compare (v * 2 ^ 150) (f * (10 ^ z * l))) e ∙ ap (λ (z : ℕ). compare (v * 2 ^ 150) (f * z)) (one-mul l)

-- without whole digits the digits are below 1
pub weigh-fraction : (ds : List ℕ) (zeros s : ℕ) → weigh_of ds 0 zeros s ≡ compare (val ds * 2 ^ 150) (s * (10 ^ zeros * 10 ^ length ds))
unfolding weigh_of
weigh-fraction ds zeros s = ap (λ (z : ℕ). compare (z * 2 ^ 150) (s * (10 ^ zeros * 10 ^ length ds))) (mul-one (val ds))

-- a number of six words is below 2 ^ 300
pub six-lt : (g f : ℕ) → g < 2 ^ 150 → f < 2 ^ 150 → g * 2 ^ 150 + f < 2 ^ 300
six-lt g f h l = digits_lt h l

module _ (ds : List ℕ) (below : val ds < 10 ^ length ds) (zeros g f : ℕ) where
  -- a whole number is above it
  pub small-under : 0 < g → Ordering.lt ≡ weigh_of ds 0 zeros (g * 2 ^ 150 + f)
  small-under h = sym (weigh-fraction ds zeros (g * 2 ^ 150 + f) ∙ over-whole (val ds) (10 ^ length ds) below g f zeros h)

  -- only a fraction is there
  pub small_is : 0 ≡ g → weigh_of ds 0 zeros (g * 2 ^ 150 + f) ≡ compare (val ds * 2 ^ 150) (f * (10 ^ zeros * 10 ^ length ds))
  small_is e =
      weigh-fraction ds zeros (g * 2 ^ 150 + f)
      ∙ ap (λ (z : ℕ). compare (val ds * 2 ^ 150) ((z * 2 ^ 150 + f) * (10 ^ zeros * 10 ^ length ds))) (sym e)
      ∙ ap (λ (z : ℕ). compare (val ds * 2 ^ 150) (z * (10 ^ zeros * 10 ^ length ds))) (zero-add f)

-- the digits from the start against a fraction
pub against-is : (ds : List ℕ) (f : ℕ) → against ds f ≡ compare (val ds * 2 ^ 150) (f * 10 ^ length ds)
unfolding against
against-is ds f = refl
