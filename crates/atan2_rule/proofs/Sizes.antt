-- The parts u and v that the steps cut from the bits of y and x: a number of N units of 2 ^ -149 is N · 2 ^ 925 units of 2 ^ -1074 as an f64, and its part is that over 2 ^ (top + 22), rounded down.
-- The larger of the two has 30 digits. Assumes nothing.
use mathlib.Core.Path.{◌≡◌, refl, sym, ap, ◌∙◌, subst}
use mathlib.Core.Logic.{◌⊎◌, inl, inr}
use Prim.Native.Nat.{ℕ, zero, suc, ◌+◌, ◌-◌, ◌*◌, ◌/◌, ◌%◌, ◌^◌, ◌≤◌, ◌<◌}
use native.Mathlib.Nat.{zero-add, add-mul, one-mul, zero-mul, mul_assoc, mul_right_comm, mul-div_cancel, mul-le-mul_right, div-mul-le_self, div-lt_iff_lt-mul, div-eq_of_lt}
use native.Mathlib.Nat.{le_refl, le_trans, le_of_eq, le_of_lt, lt_of_lt_of_le, lt_of_le_of_lt, lt_of_not-le, not-le_of_lt, le-add_right, le-add_left, lt-div-mul-add, le-div_iff_mul-le}
use native.Mathlib.Omega.{arith}
use native.Mathlib.Decide.{dec_le}
use mathlib.Core.Bool.{Bool, true, false, cond}
use lib.Dec.{ltb, lit≤}
use lib.Pow.{pow_pos, pow_mono, pow-add, shl_lt, shr-shr}
use lib.Ieee.{Float, nan, inf, fin, up, down, size, binary64, to_bits}
use lib.Ieee.Digits.{size-lt, size_reaches, size-le}
use lib.Ieee.Fits.{down_pos, kept-lt}
use borrow.Author.Tests.{lt-ltb, le-ltb, ltb-true, ltb-false}
use Rattle.trig_rule.specs.Rule.{Is}
use Rattle.trig_rule.proofs.Patterns.{bit}
use Rattle.atan2_rule.specs.Steps.{plain, sign_bit, field, top_of, part_of}
use Rattle.atan2_rule.proofs.Exact.{Cut}

-- ---- the bits of N units as an f64: the 53 leading digits, and how many are dropped
abbrev pub dropped : ℕ → ℕ
dropped n = size n - 53

abbrev pub wide_bits : ℕ → ℕ
wide_bits n = dropped n * 2 ^ 52 + n / 2 ^ dropped n

few : (N : ℕ) → N < 2 ^ 277 → dropped (N * 2 ^ 925) ≤ 1149
few N h = let a : size (N * 2 ^ 925) ≤ 1202 = size-le (N * 2 ^ 925) 1202 (shl_lt 277 925 h) in omega arith

bits-lt : (k q : ℕ) → k ≤ 1149 → q < 2 ^ 53 → k * 2 ^ 52 + q < 1151 * 2 ^ 52
bits-lt k q h l = omega arith

pub wide-lt : (N : ℕ) → N < 2 ^ 277 → wide_bits (N * 2 ^ 925) < 1151 * 2 ^ 52
wide-lt N h = bits-lt (dropped (N * 2 ^ 925)) (N * 2 ^ 925 / 2 ^ dropped (N * 2 ^ 925)) (few N h) (kept-lt 53 (N * 2 ^ 925))

scaled : (m u N d : ℕ) → 0 < d → m * u * 2 ^ 149 ≡ N * d → m * u * 2 ^ 1074 / d ≡ N * 2 ^ 925
scaled m u N d pos h =
    ap (λ (x : ℕ). x / d) (sym (mul_assoc (m * u) (2 ^ 149) (2 ^ 925)) ∙ ap (λ (x : ℕ). x * 2 ^ 925) h ∙ mul_right_comm N d (2 ^ 925)) ∙ mul-div_cancel (N * 2 ^ 925) pos

bits_are : (x : Float) (s : Bool) (N : ℕ) → Is x s N → to_bits binary64 x ≡ bit s * 2 ^ 63 + wide_bits (N * 2 ^ 925)
unfolding to_bits
bits_are nan s N h = absurd h
bits_are (inf t) s N h = absurd h
bits_are (fin t m e) s N h =
    ap (λ (n : ℕ). cond t (2 ^ 63) 0 + dropped n * 2 ^ 52 + n / 2 ^ dropped n) (scaled m (up e) N (down e) (down_pos e) h.1)
    ∙ ap (λ (b : Bool). cond b (2 ^ 63) 0 + dropped (N * 2 ^ 925) * 2 ^ 52 + N * 2 ^ 925 / 2 ^ dropped (N * 2 ^ 925)) h.0
    ∙ before s (dropped (N * 2 ^ 925) * 2 ^ 52) (N * 2 ^ 925 / 2 ^ dropped (N * 2 ^ 925))
  where
    before : (s : Bool) (a b : ℕ) → cond s (2 ^ 63) 0 + a + b ≡ bit s * 2 ^ 63 + (a + b)
    before true a b = omega arith
    before false a b = omega arith

parted : (s : Bool) (b : ℕ) → b < 1151 * 2 ^ 52 → ((bit s * 2 ^ 63 + b) % 2 ^ 63 ≡ b) × ((bit s * 2 ^ 63 + b) / 2 ^ 63 ≡ bit s)
parted true b h = omega arith
parted false b h = omega arith

module _ (x : Float) (s : Bool) (N : ℕ) (is : Is x s N) (small : N < 2 ^ 277) where
  pub plain-is : plain x ≡ wide_bits (N * 2 ^ 925)
  plain-is = ap (λ (b : ℕ). b % 2 ^ 63) (bits_are x s N is) ∙ (parted s (wide_bits (N * 2 ^ 925)) (wide-lt N small)).0

  pub sign-is : sign_bit x ≡ bit s
  sign-is = ap (λ (b : ℕ). b / 2 ^ 63) (bits_are x s N is) ∙ (parted s (wide_bits (N * 2 ^ 925)) (wide-lt N small)).1

-- ---- the fields of those bits, for a number n of at least 2 ^ 925
pow_lt_back : {i j : ℕ} → 2 ^ i < 2 ^ j → i < j
pow_lt_back h = lt_of_not-le (λ g. not-le_of_lt h (pow_mono g))

module _ (n : ℕ) (large : 2 ^ 925 ≤ n) where
  digits : 925 < size n
  digits = pow_lt_back (lt_of_le_of_lt large (size-lt n))

  pub dropped-low : 873 ≤ dropped n
  dropped-low = let d = digits in omega arith

  kept_low : 2 ^ 52 ≤ n / 2 ^ dropped n
  kept_low =
      (le-div_iff_mul-le (pow_pos (dropped n))).1
      (le_trans (le_of_eq (sym (pow-add 2 52 (dropped n)))) (size_reaches n (52 + dropped n) (let d = digits in omega arith)))

  pub field_is : field (wide_bits n) ≡ suc (dropped n)
  field_is = above (dropped n) (n / 2 ^ dropped n) kept_low (kept-lt 53 n)
    where
      above : (k q : ℕ) → 2 ^ 52 ≤ q → q < 2 ^ 53 → (k * 2 ^ 52 + q) / 2 ^ 52 ≡ suc k
      above k q l h = omega arith

  digits_are : wide_bits n % 2 ^ 52 + 2 ^ 52 ≡ n / 2 ^ dropped n
  digits_are = below (dropped n) (n / 2 ^ dropped n) kept_low (kept-lt 53 n)
    where
      below : (k q : ℕ) → 2 ^ 52 ≤ q → q < 2 ^ 53 → (k * 2 ^ 52 + q) % 2 ^ 52 + 2 ^ 52 ≡ q
      below k q l h = omega arith

  -- n has 53 digits above those that are dropped
  under : n < 2 ^ (53 + dropped n)
  under = lt_of_lt_of_le (size-lt n) (pow_mono (let d = digits in omega arith))

  over : 2 ^ (52 + dropped n) ≤ n
  over = size_reaches n (52 + dropped n) (let d = digits in omega arith)

  module _ (top : ℕ) (reaches : suc (dropped n) ≤ top) where
    near-part : top - suc (dropped n) < 30 → part_of (wide_bits n) top ≡ n / 2 ^ (top + 22)
    near-part h =
        ap (λ (f : ℕ). cond (ltb (top - f) 30) ((wide_bits n % 2 ^ 52 + 2 ^ 52) / 2 ^ 23 / 2 ^ (top - f)) 0) field_is
        ∙ ap (λ (b : Bool). cond b ((wide_bits n % 2 ^ 52 + 2 ^ 52) / 2 ^ 23 / 2 ^ (top - suc (dropped n))) 0) (lt-ltb (top - suc (dropped n)) 30 h)
        ∙ ap (λ (q : ℕ). q / 2 ^ 23 / 2 ^ (top - suc (dropped n))) digits_are
        ∙ ap (λ (q : ℕ). q / 2 ^ (top - suc (dropped n))) (shr-shr n (dropped n) 23)
        ∙ shr-shr n (dropped n + 23) (top - suc (dropped n))
        ∙ ap (λ (j : ℕ). n / 2 ^ j) (sum (dropped n) reaches)
      where
        sum : (k : ℕ) → suc k ≤ top → k + 23 + (top - suc k) ≡ top + 22
        sum k l = omega arith

    far-part : 30 ≤ top - suc (dropped n) → part_of (wide_bits n) top ≡ n / 2 ^ (top + 22)
    far-part h =
        ap (λ (f : ℕ). cond (ltb (top - f) 30) ((wide_bits n % 2 ^ 52 + 2 ^ 52) / 2 ^ 23 / 2 ^ (top - f)) 0) field_is
        ∙ ap (λ (b : Bool). cond b ((wide_bits n % 2 ^ 52 + 2 ^ 52) / 2 ^ 23 / 2 ^ (top - suc (dropped n))) 0) (le-ltb (top - suc (dropped n)) 30 h)
        ∙ sym (div-eq_of_lt (lt_of_lt_of_le under (pow_mono (sum (dropped n) h))))
      where
        sum : (k : ℕ) → 30 ≤ top - suc k → 53 + k ≤ top + 22
        sum k l = omega arith

    pub part-is : part_of (wide_bits n) top ≡ n / 2 ^ (top + 22)
    part-is = go (dec_le 30 (top - suc (dropped n)))
      where
        go : Dec (30 ≤ top - suc (dropped n)) → part_of (wide_bits n) top ≡ n / 2 ^ (top + 22)
        go (yes h) = far-part h
        go (no f) = near-part (lt_of_not-le f)

    pub part-lt : n / 2 ^ (top + 22) < 2 ^ 30
    part-lt = (div-lt_iff_lt-mul (pow_pos (top + 22))).1 (lt_of_lt_of_le under (le_trans (pow_mono (sum (dropped n) reaches)) (le_of_eq (pow-add 2 30 (top + 22)))))
      where
        sum : (k : ℕ) → suc k ≤ top → 53 + k ≤ 30 + (top + 22)
        sum k l = omega arith

    pub part-large : suc (dropped n) ≡ top → 2 ^ 29 ≤ n / 2 ^ (top + 22)
    part-large e = (le-div_iff_mul-le (pow_pos (top + 22))).1 (le_trans (le_of_eq (sym (pow-add 2 29 (top + 22)))) (le_trans (pow_mono (sum (dropped n) e)) over))
      where
        sum : (k : ℕ) → suc k ≡ top → 29 + (top + 22) ≤ 52 + k
        sum k l = omega arith

-- ---- any number of units, none too
pub wide-zero : wide_bits 0 ≡ 0
wide-zero = ap (λ (k : ℕ). (k - 53) * 2 ^ 52 + 0 / 2 ^ (k - 53)) none
  where
    none : size 0 ≡ 0
    none = let h : size 0 ≤ 0 = size-le 0 0 (lit≤ tt) in omega arith

above-none : (N : ℕ) → 0 < N → 2 ^ 925 ≤ N * 2 ^ 925
above-none N h = le_trans (le_of_eq (sym (one-mul (2 ^ 925)))) (mul-le-mul_right (2 ^ 925) h)

-- what the steps have of N units, where `top` is at least the field
pub record Part (N top u : ℕ) : Type 0 where
  pub cut : Cut u N (2 ^ (top + 22)) (2 ^ 925)
  pub under : u < 2 ^ 30
  pub large : field (wide_bits (N * 2 ^ 925)) ≡ top → 0 < N → 2 ^ 29 ≤ u

cut_of : (N G : ℕ) → 0 < G → Cut (N * 2 ^ 925 / G) N G (2 ^ 925)
cut_of N G pos = record { low = div-mul-le_self (N * 2 ^ 925) G; high = le_trans (le_of_lt (lt-div-mul-add pos)) (le_of_eq (sym (add-mul (N * 2 ^ 925 / G) 1 G ∙ ap (λ (x : ℕ). N * 2 ^ 925 / G * G + x) (one-mul G)))) }

pub part-of : (N top : ℕ) → field (wide_bits (N * 2 ^ 925)) ≤ top → 30 ≤ top → Part N top (part_of (wide_bits (N * 2 ^ 925)) top)
part-of zero top h l =
    subst (λ (u : ℕ). Part 0 top u) (sym none)
    (record { cut = record { low = le_of_eq (zero-mul (2 ^ (top + 22)) ∙ sym (zero-mul (2 ^ 925))); high = le_trans (le_of_eq (zero-mul (2 ^ 925))) (omega arith) }; under = lit≤ tt; large = λ e p. absurd (no_less p) })
  where
    no_less : 0 < 0 → ⊥
    no_less p = omega arith

    none : part_of (wide_bits (0 * 2 ^ 925)) top ≡ 0
    none =
        ap (λ (b : ℕ). part_of b top) (ap wide_bits (zero-mul (2 ^ 925)) ∙ wide-zero)
        ∙ ap (λ (b : Bool). cond b ((0 % 2 ^ 52 + 2 ^ 52) / 2 ^ 23 / 2 ^ (top - 0)) 0) (le-ltb (top - 0) 30 (omega arith))
part-of (suc N) top h l =
    let n = suc N * 2 ^ 925 in
    let b : 2 ^ 925 ≤ n = above-none (suc N) (omega arith) in
    let r : suc (dropped n) ≤ top = le_trans (le_of_eq (sym (field_is n b))) h in
    subst (λ (u : ℕ). Part (suc N) top u) (sym (part-is n b top r))
    (record { cut = cut_of (suc N) (2 ^ (top + 22)) (pow_pos (top + 22)); under = part-lt n b top r; large = λ e p. part-large n b top r (sym (field_is n b) ∙ e) })

-- ---- y and x together, not both zero
pub record Pair (Y X u v : ℕ) : Type 0 where
  pub scale : ℕ
  pub scale-pos : 0 < scale
  pub rise : Cut u Y scale (2 ^ 925)
  pub run : Cut v X scale (2 ^ 925)
  pub rise-under : u < 2 ^ 30
  pub run-under : v < 2 ^ 30
  pub large : 2 ^ 29 ≤ u + v

pub field-low : (N : ℕ) → 0 < N → 874 ≤ field (wide_bits (N * 2 ^ 925))
field-low N h = let a = dropped-low (N * 2 ^ 925) (above-none N h) in let e = field_is (N * 2 ^ 925) (above-none N h) in omega arith

-- the larger field, and whose it is
top-ge-first : (a b : ℕ) → field a ≤ top_of a b
top-ge-first a b = go (ltb (field a) (field b)) refl
  where
    go : (t : Bool) → ltb (field a) (field b) ≡ t → field a ≤ cond t (field b) (field a)
    go true e = le_of_lt (ltb-true (field a) (field b) e)
    go false e = le_refl (field a)

top-ge-second : (a b : ℕ) → field b ≤ top_of a b
top-ge-second a b = go (ltb (field a) (field b)) refl
  where
    go : (t : Bool) → ltb (field a) (field b) ≡ t → field b ≤ cond t (field b) (field a)
    go true e = le_refl (field b)
    go false e = ltb-false (field a) (field b) e

top-is : (a b : ℕ) → (field a ≡ top_of a b) ⊎ (field b ≡ top_of a b)
top-is a b = go (ltb (field a) (field b))
  where
    go : (t : Bool) → (field a ≡ cond t (field b) (field a)) ⊎ (field b ≡ cond t (field b) (field a))
    go true = inr refl
    go false = inl refl

field-pos : (N : ℕ) → 874 ≤ field (wide_bits (N * 2 ^ 925)) → 0 < N
field-pos zero h = absurd (none (le_trans h (le_of_eq (ap field (ap wide_bits (zero-mul (2 ^ 925)) ∙ wide-zero)))))
  where
    none : 874 ≤ 0 → ⊥
    none k = omega arith
field-pos (suc N) h = omega arith

some-field : (Y X : ℕ) → 0 < Y + X → 874 ≤ top_of (wide_bits (Y * 2 ^ 925)) (wide_bits (X * 2 ^ 925))
some-field zero X h = le_trans (field-low X (le_trans h (le_of_eq (zero-add X)))) (top-ge-second (wide_bits (0 * 2 ^ 925)) (wide_bits (X * 2 ^ 925)))
some-field (suc Y) X h = le_trans (field-low (suc Y) (omega arith)) (top-ge-first (wide_bits (suc Y * 2 ^ 925)) (wide_bits (X * 2 ^ 925)))

pub pair : (Y X : ℕ) → 0 < Y + X
    → Pair Y X (part_of (wide_bits (Y * 2 ^ 925)) (top_of (wide_bits (Y * 2 ^ 925)) (wide_bits (X * 2 ^ 925)))) (part_of (wide_bits (X * 2 ^ 925)) (top_of (wide_bits (Y * 2 ^ 925)) (wide_bits (X * 2 ^ 925))))
pair Y X some =
    let a = wide_bits (Y * 2 ^ 925) in
    let b = wide_bits (X * 2 ^ 925) in
    let top = top_of a b in
    let far = some-field Y X some in
    let p = part-of Y top (top-ge-first a b) (le_trans (lit≤ tt) far) in
    let q = part-of X top (top-ge-second a b) (le_trans (lit≤ tt) far) in
    record {
      scale = 2 ^ (top + 22);
      scale-pos = pow_pos (top + 22);
      rise = p.cut;
      run = q.cut;
      rise-under = p.under;
      run-under = q.under;
      large = elim (top-is a b) [
        | inl e ↦ le_trans (p.large e (field-pos Y (le_trans far (le_of_eq (sym e))))) (le-add_right (part_of a top) (part_of b top))
        | inr e ↦ le_trans (q.large e (field-pos X (le_trans far (le_of_eq (sym e))))) (le-add_left (part_of b top) (part_of a top))
      ];
    }
