-- A rounded fraction is its nearest value, and no other value is. num / den in units is n / den; the rounding takes the multiple of 2 ^ shift units
-- that is nearest to it. A value that is no such multiple lies below all the digits of n / den, further off. Assumes nothing.
use Prim.Native.Nat.{ℕ, suc, ◌+◌, ◌-◌, ◌*◌, ◌/◌, ◌%◌, ◌^◌, ◌≤◌, ◌<◌, compare}
use mathlib.Core.Path.{◌≡◌, refl, sym, ap, ◌∙◌, subst}
use mathlib.Core.Logic.{◌⊎◌, inl, inr}
use mathlib.Core.Bool.{Bool, cond}
use native.Mathlib.Nat.{le_trans, le_of_eq, le_antisymm, lt_of_lt_of_le, lt_of_le_of_lt, lt_irrefl, mul_assoc, mul_comm, mul_right_comm, mul-one, mul-pos}
use native.Mathlib.Nat.{mul-le-mul_right, mul-lt-mul_of_pos_right, lt_of_mul-lt-mul_right, le-div_iff_mul-le, div-lt_iff_lt-mul, div-div-eq-div-mul, eq-zero-or-pos, zero-mul, suc-mul}
use native.Mathlib.Omega.{arith}
use lib.IntN.{ℤ, pos}
use lib.Dec.{T, lit≤, lit<}
use lib.Pow.{pow-add, pow_pos, pow_mono}
use lib.Ieee.{Float, nan, inf, fin, binary32, size, units, round, fits, to_bits, of_bits, prec, hid, top}
use lib.Ieee.Digits.{size-le, size_reaches}
use lib.Ieee.Fits.{kept-lt, nearest-le, round_is, round-fits}
use lib.Ieee.Exact.{HasValue, units_val}
use lib.Ieee.Bits.{of_bits-to_bits}
use lib.Ieee.Order.{drop, kept}
use lib.Ieee.Scale.{finite}
use Rattle.root.specs.Root.{units_of}
use Rattle.root.proofs.Middles.{Few, multiple}
use Rattle.root.proofs.Rounded.{Near, closest-near}
use Rattle.root.proofs.Units.{units-of-value, units-few}
use Rattle.decimal_rounding.proofs.Compares.{below_or_not}
use Rattle.decimal_rounding.proofs.Pattern.{units-infinite}
use Rattle.decimal_rounding.proofs.Limits.{infinite-from, zero-to, Signed, sign_kept}
use Rattle.decimal_nearest.specs.Nearest.{apart, distance, significand_of, HasSign, NearestTo}
use Rattle.decimal_nearest.proofs.Multiples.{multiple-nearest, half, neighbour, half-even}
use Rattle.decimal_nearest.proofs.Significands.{significand-is, significand-even}

-- ---- n / den units, rounded to q * 2 ^ shift units

module _ (n den : ℕ) (some : 0 < den) where
  abbrev shift : ℕ
  shift = drop 24 n den

  -- 2 ^ shift units, den times
  abbrev step : ℕ
  step = den * 2 ^ shift

  abbrev digits : ℕ
  digits = kept 24 n den

  step-pos : 0 < step
  step-pos = mul-pos some (pow_pos shift)

  near : Near n step digits
  near = closest-near n step step-pos

  turn : (x : ℕ) → x * 2 ^ shift * den ≡ x * step
  turn x = mul_assoc x (2 ^ shift) den ∙ ap (λ (z : ℕ). x * z) (mul_comm (2 ^ shift) den)

  whole-lt : n / step < 2 ^ 24
  whole-lt = subst (λ (z : ℕ). z < 2 ^ 24) (div-div-eq-div-mul n den (2 ^ shift)) (kept-lt 24 (n / den))

  digits_le : digits ≤ 2 ^ 24
  digits_le = le_trans (nearest-le (n / step) (compare (n % step * 2) step)) whole-lt

  -- where digits are dropped, n / den has all 24 before them
  full : 0 < shift → 2 ^ 23 * step ≤ n
  full h =
      let w = n / den in
      let a : 2 ^ 23 * 2 ^ shift ≤ w = le_trans (le_of_eq (sym (pow-add 2 23 shift))) (size_reaches w (23 + shift) (within (size w) h)) in
      le_trans (le_of_eq (sym (turn (2 ^ 23)))) ((le-div_iff_mul-le some).0 a)
    where
      within : (z : ℕ) → 0 < z - 24 → 23 + (z - 24) < z
      within z h = omega arith

  -- a value of y units is a multiple of the step with all its digits, or lies further off
  data Stands (y : ℕ) : Type 0 where
    on_step : (c : ℕ) → y ≡ c * 2 ^ shift → (2 ^ 23 ≤ c) ⊎ (shift ≡ 0) → Stands y
    further : apart n (digits * step) < apart n (y * den) → Stands y

  stands : (y : ℕ) → Few 24 y → Stands y
  stands y few = go (eq-zero-or-pos shift) (below_or_not (2 * y) (2 ^ 24 * 2 ^ shift))
    where
      low-lt : 2 * y < 2 ^ 24 * 2 ^ shift → y < 2 ^ 23 * 2 ^ shift
      low-lt l = let e : 2 ^ 24 * 2 ^ shift ≡ 2 * (2 ^ 23 * 2 ^ shift) = mul_assoc 2 (2 ^ 23) (2 ^ shift) in omega arith

      long : (c : ℕ) → y ≡ c * 2 ^ shift → 2 ^ 24 * 2 ^ shift ≤ 2 * y → 2 ^ 23 ≤ c
      long c e g = pick (below_or_not c (2 ^ 23))
        where
          pick : (c < 2 ^ 23) ⊎ (2 ^ 23 ≤ c) → 2 ^ 23 ≤ c
          pick (inl l) =
              let a : c * 2 ^ shift < 2 ^ 23 * 2 ^ shift = mul-lt-mul_of_pos_right l (pow_pos shift) in
              let b : 2 ^ 24 * 2 ^ shift ≡ 2 * (2 ^ 23 * 2 ^ shift) = mul_assoc 2 (2 ^ 23) (2 ^ shift) in
              absurd (omega arith)
          pick (inr h) = h

      go : (shift ≡ 0) ⊎ (0 < shift) → (2 * y < 2 ^ 24 * 2 ^ shift) ⊎ (2 ^ 24 * 2 ^ shift ≤ 2 * y) → Stands y
      go (inl z) x = on_step y (sym (ap (λ (k : ℕ). y * 2 ^ k) z ∙ mul-one y)) (inr z)
      go (inr p) (inl l) =
          let a : y * den < 2 ^ 23 * 2 ^ shift * den = mul-lt-mul_of_pos_right (low-lt l) some in
          let b = multiple-nearest n step digits near (2 ^ 23) in
          further (omega (arith, turn (2 ^ 23), full p))
      go (inr p) (inr g) =
          let e = multiple 24 shift few g in
          on_step (few.digits * 2 ^ (few.zeros - shift)) e (inl (long (few.digits * 2 ^ (few.zeros - shift)) e g))

  pub value-nearest : (y : ℕ) → Few 24 y → apart n (digits * 2 ^ shift * den) ≤ apart n (y * den)
  value-nearest y few = subst (λ (z : ℕ). apart n z ≤ apart n (y * den)) (sym (turn digits)) (go (stands y few))
    where
      go : Stands y → apart n (digits * step) ≤ apart n (y * den)
      go (on_step c e f) = subst (λ (z : ℕ). apart n (digits * step) ≤ apart n z) (sym (ap (λ (z : ℕ). z * den) e ∙ turn c)) (multiple-nearest n step digits near c)
      go (further l) = omega arith

  odd-beside : (c d : ℕ) → d % 2 ≡ 0 → (c ≡ suc d) ⊎ (d ≡ suc c) → c % 2 ≡ 1
  odd-beside c d e (inl f) = omega arith
  odd-beside c d e (inr f) = omega arith

  -- where the next multiple above is as near, the digits are those of n / step, of which there are 24
  few-beside : (c : ℕ) → apart n (c * step) ≡ apart n (digits * step) → digits % 2 ≡ 0 → (c ≡ suc digits) ⊎ (digits ≡ suc c) → c < 2 ^ 24
  few-beside c l even (inl e) =
      let s : c * step ≡ digits * step + step = ap (λ (z : ℕ). z * step) e ∙ suc-mul digits step in
      let a : digits * step ≤ n = omega (arith, step-pos) in
      let b : digits ≤ n / step = (le-div_iff_mul-le step-pos).1 a in
      under c digits (lt_of_le_of_lt b whole-lt) even e
    where
      under : (c d : ℕ) → d < 2 ^ 24 → d % 2 ≡ 0 → c ≡ suc d → c < 2 ^ 24
      under c d l e f = omega arith
  few-beside c l even (inr e) = omega (arith, digits_le)

  -- a value of another size that is as near: the next multiple, odd where the digits are even
  record Level (y : ℕ) : Type 0 where
    even : digits % 2 ≡ 0
    other : ℕ
    is : y ≡ other * 2 ^ shift
    long : (2 ^ 23 ≤ other) ⊎ (shift ≡ 0)
    odd : other % 2 ≡ 1
    few : other < 2 ^ 24

  level : (y : ℕ) → Few 24 y → (y ≡ digits * 2 ^ shift → ⊥) → apart n (y * den) ≡ apart n (digits * 2 ^ shift * den) → Level y
  level y few other same = go (stands y few)
    where
      same-steps : apart n (y * den) ≡ apart n (digits * step)
      same-steps = same ∙ ap (λ (z : ℕ). apart n z) (turn digits)

      go : Stands y → Level y
      go (further l) = absurd (omega (arith, same-steps))
      go (on_step c e f) =
          let o : c ≡ digits → ⊥ = λ g. other (e ∙ ap (λ (z : ℕ). z * 2 ^ shift) g) in
          let l : apart n (c * step) ≡ apart n (digits * step) = ap (λ (z : ℕ). apart n z) (sym (ap (λ (z : ℕ). z * den) e ∙ turn c)) ∙ same-steps in
          let even : digits % 2 ≡ 0 = half-even n step step-pos (half n step digits near c o l) in
          let beside = neighbour n step digits near c o l step-pos in
          record {
            even = even;
            other = c;
            is = e;
            long = f;
            odd = odd-beside c digits even beside;
            few = few-beside c l even beside;
          }

  pub level-even : (y : ℕ) → Few 24 y → (y ≡ digits * 2 ^ shift → ⊥) → apart n (y * den) ≡ apart n (digits * 2 ^ shift * den)
      → significand_of (digits * 2 ^ shift) % 2 ≡ 0
  level-even y few other same = significand-even digits shift digits_le (level y few other same).even

  pub level-odd : (y : ℕ) → Few 24 y → (y ≡ digits * 2 ^ shift → ⊥) → apart n (y * den) ≡ apart n (digits * 2 ^ shift * den) → significand_of y % 2 ≡ 1
  level-odd y few other same =
      let v = level y few other same in
      ap (λ (z : ℕ). significand_of z % 2) v.is ∙ ap (λ (z : ℕ). z % 2) (significand-is v.other shift v.few v.long) ∙ v.odd

  -- ---- the thresholds

  pub none_kept : digits * 2 ^ shift ≡ 0 → 2 * n ≤ den
  none_kept h = go (eq-zero-or-pos digits) (eq-zero-or-pos shift)
    where
      go : (digits ≡ 0) ⊎ (0 < digits) → (shift ≡ 0) ⊎ (0 < shift) → 2 * n ≤ den
      go (inr p) x = absurd (lt_irrefl 0 (subst (λ (z : ℕ). 0 < z) h (mul-pos p (pow_pos shift))))
      go (inl z) (inl e) =
          let a : digits * step ≡ 0 = ap (λ (x : ℕ). x * step) z ∙ zero-mul step in
          let b : step ≡ den = ap (λ (x : ℕ). den * 2 ^ x) e ∙ mul-one den in
          omega (arith, near.under)
      go (inl z) (inr p) =
          let a : digits * step ≡ 0 = ap (λ (x : ℕ). x * step) z ∙ zero-mul step in
          absurd (omega (arith, near.under, full p, step-pos))

  pub under_last : n < 33554431 * (den * 2 ^ 252) → digits * 2 ^ shift < 2 ^ 277
  under_last h = go (below_or_not shift 253)
    where
      whole : 33554431 * (den * 2 ^ 252) ≤ 2 ^ 277 * den
      whole = le_trans (mul-le-mul_right (den * 2 ^ 252) (lit≤ tt)) (le_of_eq (sym (mul_assoc (2 ^ 25) den (2 ^ 252)) ∙ mul_right_comm (2 ^ 25) den (2 ^ 252)))

      shift_le : shift ≤ 253
      shift_le = short (size (n / den)) (size-le (n / den) 277 ((div-lt_iff_lt-mul some).1 (lt_of_lt_of_le h whole)))
        where
          short : (z : ℕ) → z ≤ 277 → z - 24 ≤ 253
          short z l = omega arith

      lower : shift < 253 → digits * 2 ^ shift < 2 ^ 277
      lower l =
          let e : 24 + shift ≤ 276 = omega arith in
          lt_of_le_of_lt (le_trans (mul-le-mul_right (2 ^ shift) digits_le) (le_trans (le_of_eq (sym (pow-add 2 24 shift))) (pow_mono e))) (lit< tt)

      -- the last step: the fraction is below the last middle, so that not all 2 ^ 24 of them are taken
      last : shift ≡ 253 → digits * 2 ^ shift < 2 ^ 277
      last e =
          let t = den * 2 ^ 252 in
          let d : step ≡ t * 2 = ap (λ (z : ℕ). den * 2 ^ z) e ∙ sym (mul_assoc den (2 ^ 252) 2) in
          let b : digits < 2 ^ 24 = lt_of_mul-lt-mul_right step (missed n (digits * step) step t h d near.over) in
          lt_of_lt_of_le (mul-lt-mul_of_pos_right b (pow_pos shift)) (le_of_eq (ap (λ (z : ℕ). 2 ^ 24 * 2 ^ z) e))
        where
          missed : (n taken u t : ℕ) → n < 33554431 * t → u ≡ t * 2 → 2 * taken ≤ 2 * n + u → taken < 16777216 * u
          missed n taken u t h e l = omega arith

      go : (shift < 253) ⊎ (253 ≤ shift) → digits * 2 ^ shift < 2 ^ 277
      go (inl l) = lower l
      go (inr g) = last (le_antisymm shift_le g)

-- ---- two finite values of one sign and one size are one value

bits : Bool → ℕ → ℕ
bits t n = cond t (top binary32) 0 + (size n - prec binary32) * hid binary32 + n / 2 ^ (size n - prec binary32)

bits_at : (t : Bool) (m : ℕ) (i : ℤ) → to_bits binary32 (fin t m i) ≡ bits t (units_of binary32 (fin t m i))
unfolding to_bits bits
bits_at t m i = refl

pub same-value : (s : Bool) (x y : Float) → T (fits binary32 x) → T (fits binary32 y) → T (finite x) → T (finite y) → HasSign s x → HasSign s y
    → units_of binary32 x ≡ units_of binary32 y → x ≡ y
same-value s nan y h g p q a b e = absurd p
same-value s (inf t) y h g p q a b e = absurd p
same-value s (fin t m i) nan h g p q a b e = absurd q
same-value s (fin t m i) (inf r) h g p q a b e = absurd q
same-value s (fin t m i) (fin r l j) h g p q a b e =
    sym (of_bits-to_bits binary32 (fin t m i) h)
    ∙ ap (of_bits binary32) (bits_at t m i ∙ ap (λ (z : Bool). bits z (units_of binary32 (fin t m i))) (a ∙ sym b) ∙ ap (bits r) e ∙ sym (bits_at r l j))
    ∙ of_bits-to_bits binary32 (fin r l j) g

-- ---- the rounded value

module _ (s : Bool) (num den : ℕ) (some : 0 < den) where
  abbrev n : ℕ
  n = num * 2 ^ 149

  abbrev r : Float
  r = round binary32 s num den

  abbrev sized : ℕ
  sized = digits n den some * 2 ^ shift n den some

  rounded : r ≡ units binary32 s (digits n den some) (shift n den some)
  rounded = round_is binary32 s num den

  finite-value : sized < 2 ^ 277 → HasValue r s sized (2 ^ 149)
  finite-value l = subst (λ (z : Float). HasValue z s sized (2 ^ 149)) (sym rounded) (units_val binary32 s (digits n den some) (shift n den some) l)

  in-units : sized < 2 ^ 277 → units_of binary32 r ≡ sized
  in-units l = units-of-value binary32 r s sized (finite-value l)

  no-infinity : (z : Float) → z ≡ inf s → T (finite z) → ⊥
  no-infinity z e h = subst (λ (x : Float). T (finite x)) e h

  under : T (finite r) → sized < 2 ^ 277
  under h = go (below_or_not sized (2 ^ 277))
    where
      go : (sized < 2 ^ 277) ⊎ (2 ^ 277 ≤ sized) → sized < 2 ^ 277
      go (inl l) = l
      go (inr g) = absurd (no-infinity r (rounded ∙ units-infinite s (digits n den some) (shift n den some) g) h)

  is_finite : (z : Float) (a c : ℕ) → HasValue z s a c → T (finite z)
  is_finite nan a c h = absurd h
  is_finite (inf t) a c h = absurd h
  is_finite (fin t m e) a c h = tt

  -- below the last middle, in half steps of the largest values
  scaled : num < (2 ^ 128 - 2 ^ 103) * den → n < 33554431 * (den * 2 ^ 252)
  scaled h =
      lt_of_lt_of_le (mul-lt-mul_of_pos_right h (pow_pos 149))
      (le_of_eq (sym (sym (mul_right_comm 33554431 (2 ^ 252) den ∙ mul_assoc 33554431 den (2 ^ 252)) ∙ mul_right_comm (33554431 * 2 ^ 103) (2 ^ 149) den)))

  pub finite-below : num < (2 ^ 128 - 2 ^ 103) * den → T (finite r)
  finite-below h = is_finite r sized (2 ^ 149) (finite-value (under_last n den some (scaled h)))

  pub infinite-only : r ≡ inf s → (2 ^ 128 - 2 ^ 103) * den ≤ num
  infinite-only e = go (below_or_not num ((2 ^ 128 - 2 ^ 103) * den))
    where
      go : (num < (2 ^ 128 - 2 ^ 103) * den) ⊎ ((2 ^ 128 - 2 ^ 103) * den ≤ num) → (2 ^ 128 - 2 ^ 103) * den ≤ num
      go (inl l) = absurd (no-infinity r e (finite-below l))
      go (inr g) = g

  pub zero-only : r ≡ fin s 0 (pos 0) → num * 2 ^ 150 ≤ den
  zero-only e =
      let f : T (finite r) = subst (λ (z : Float). T (finite z)) (sym e) tt in
      let z : sized ≡ 0 = sym (in-units (under f)) ∙ ap (units_of binary32) e ∙ none in
      le_trans (le_of_eq (sym (mul_comm 2 (num * 2 ^ 149) ∙ mul_assoc num (2 ^ 149) 2))) (none_kept n den some z)
    where
      none : units_of binary32 (fin s 0 (pos 0)) ≡ 0
      none = refl

  sign : (z : Float) → Signed s z → HasSign s z
  sign nan h = h
  sign (inf t) h = h
  sign (fin t m e) h = h

  pub round-nearest : NearestTo s num den r
  round-nearest =
      record {
        held = round-fits binary32 s num den;
        signed = sign r (sign_kept binary32 s num den);
        infinite-from = infinite-from s num den some;
        infinite-only = infinite-only;
        zero-to = zero-to s num den some;
        zero-only = zero-only;
        nearest = λ f y h g.
            subst (λ (z : ℕ). apart n (z * den) ≤ distance num den y) (sym (in-units (under f))) (value-nearest n den some (units_of binary32 y) (units-few binary32 y h g));
        even = λ f y h g o e.
            subst (λ (z : ℕ). significand_of z % 2 ≡ 0) (sym (in-units (under f)))
            (level-even n den some (units_of binary32 y) (units-few binary32 y h g) (λ w. o (w ∙ sym (in-units (under f))))
            (e ∙ ap (λ (z : ℕ). apart n (z * den)) (in-units (under f))));
      }

  -- ---- and the only one

  module _ (x : Float) (a : NearestTo s num den x) where
    odd_even : (m : ℕ) → m % 2 ≡ 1 → m % 2 ≡ 0 → ⊥
    odd_even m o e = omega arith

    both-finite : T (finite x) → T (finite r) → x ≡ r
    both-finite f g = go (below_or_not (units_of binary32 x) (units_of binary32 r)) (below_or_not (units_of binary32 r) (units_of binary32 x))
      where
        b : NearestTo s num den r
        b = round-nearest

        level-at : distance num den x ≡ distance num den r
        level-at = le_antisymm (a.nearest f r b.held g) (b.nearest g x a.held f)

        apart_from : (units_of binary32 x ≡ units_of binary32 r → ⊥) → ⊥
        apart_from o =
            let e = in-units (under g) in
            odd_even (significand_of (units_of binary32 x))
            (level-odd n den some (units_of binary32 x) (units-few binary32 x a.held f) (λ w. o (w ∙ sym e)) (level-at ∙ ap (λ (z : ℕ). apart n (z * den)) e))
            (a.even f r b.held g (λ w. o (sym w)) (sym level-at))

        go : (units_of binary32 x < units_of binary32 r) ⊎ (units_of binary32 r ≤ units_of binary32 x)
            → (units_of binary32 r < units_of binary32 x) ⊎ (units_of binary32 x ≤ units_of binary32 r) → x ≡ r
        go (inl l) y = absurd (apart_from (λ w. omega arith))
        go (inr h) (inl l) = absurd (apart_from (λ w. omega arith))
        go (inr h) (inr k) = same-value s x r a.held b.held f g a.signed b.signed (le_antisymm k h)

    below_last : T (finite x) → num < (2 ^ 128 - 2 ^ 103) * den
    below_last f = go (below_or_not num ((2 ^ 128 - 2 ^ 103) * den))
      where
        go : (num < (2 ^ 128 - 2 ^ 103) * den) ⊎ ((2 ^ 128 - 2 ^ 103) * den ≤ num) → num < (2 ^ 128 - 2 ^ 103) * den
        go (inl l) = l
        go (inr g) = absurd (no-infinity x (a.infinite-from g) f)

  pub nearest-is : (x : Float) → NearestTo s num den x → x ≡ r
  nearest-is nan a = absurd a.signed
  nearest-is (inf t) a = let e : inf t ≡ inf s = ap inf a.signed in e ∙ sym (infinite-from s num den some (a.infinite-only e))
  nearest-is (fin t m e) a = both-finite (fin t m e) a tt (finite-below (below_last (fin t m e) a tt))

-- any two values that are nearest to a fraction are equal
pub nearest-unique : (s : Bool) (num den : ℕ) → 0 < den → (x y : Float) → NearestTo s num den x → NearestTo s num den y → x ≡ y
nearest-unique s num den some x y a b = nearest-is s num den some x a ∙ sym (nearest-is s num den some y b)
