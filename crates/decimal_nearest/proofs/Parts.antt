-- The fraction that `decimal` rounds is the exact value of the text by the digits of its parts. Assumes nothing.
use Prim.Native.Nat.{ℕ, zero, suc, ◌+◌, ◌-◌, ◌*◌, ◌^◌, ◌≤◌, ◌<◌}
use mathlib.Core.Path.{◌≡◌, refl, sym, ap, ◌∙◌, subst}
use mathlib.Core.Bool.{Bool, true, false, cond}
use mathlib.Core.Logic.{⊎_elim}
use mathlib.Core.List.{List, [], ◌∷◌, ◌++◌}
use native.Mathlib.Numerals.{add-one}
use native.Mathlib.Nat.{mul_assoc, mul-one}
use native.Mathlib.Omega.{arith}
use borrow.Author.Tests.{lt-ltb, ltb-true, eqb-true}
use lib.Dec.{ltb, eqb, eqb_refl}
use lib.ListN.{length, get_or}
use lib.Pow.{pow-add}
use lib.Ieee.{Float}
use Rattle.scan.specs.Bytes.{among, digits}
use Rattle.scan.specs.Numbers.{fraction_of, places_of, scan_number_of, NumberAt}
use Rattle.scan.specs.declared.numbers.Places.{Places}
use Rattle.std.specs.Prelude.{Ok}
use Rattle.scan.proofs.ByteLaws.{either_way, both_true}
use Rattle.scan.proofs.NumberLaws.{scanned-places, scanned-number}
use Rattle.decimal_digits.specs.Digits.{digits_in, val}
use Rattle.decimal_digits.proofs.Values.{ten-pos, val-append}
use Rattle.decimal_digits.proofs.Places.{none_in, join-in, run_in}
use Rattle.decimal_digits.proofs.Capping.{size-digit}
use Rattle.decimal.specs.Decimal.{digits_of, power_of, falls, rise_of, fall_of, numerator, denominator}
use Rattle.decimal.proofs.Found.{point-in}
use Rattle.decimal_nearest.specs.Nearest.{ValueAt}
use Rattle.decimal_nearest.specs.Parts.{figure, whole_in, fraction_in, places_in, exponent_in, Lowers, Exact}

-- ---- a run of digits

module _ (text : List ℕ) where
  run-figure : (n from : ℕ) → from + n ≤ length text → ((k : ℕ) → from ≤ k → k < from + n → among (get_or text k 0) digits ≡ true) → figure text from n ≡ val (digits_in text from (from + n))
  unfolding figure val
  run-figure zero from h d = let e : from + 0 ≡ from = omega arith in sym (ap (λ (z : ℕ). val (digits_in text from z)) e ∙ ap val (none_in text from))
  run-figure (suc n) from h d =
      let e : from + n + 1 ≡ from + suc n = omega arith in
      ap (λ (z : ℕ). z * 10 + (get_or text (from + n) 0 - 48)) (run-figure n from (omega arith) (λ k low high. d k low (omega arith)))
      ∙ size-digit text from (from + n) (omega arith) (omega arith) (d (from + n) (omega arith) (omega arith))
      ∙ ap (λ (z : ℕ). val (digits_in text from z)) e

  figure-is : (a b : ℕ) → a ≤ b → b ≤ length text → ((k : ℕ) → a ≤ k → k < b → among (get_or text k 0) digits ≡ true) → figure text a (b - a) ≡ val (digits_in text a b)
  figure-is a b h l d =
      let e : a + (b - a) ≡ b = omega arith in
      run-figure (b - a) a (omega arith) (λ k low high. d k low (omega arith)) ∙ ap (λ (z : ℕ). val (digits_in text a z)) e

-- ---- the parts of a number

module _ (text : List ℕ) (at : ℕ) (p : Places) (scanned : scan_number_of text at ≡ Ok p) where
  number : NumberAt text p
  number = scanned-number text at p scanned

  -- between the whole part and the fraction stands at most a point
  no-digit-between : digits_in text p.point p.fraction ≡ []
  unfolding places_of fraction_of
  no-digit-between =
      let e = scanned-places text at p scanned in
      subst (λ (q : Places). digits_in text q.point q.fraction ≡ []) (sym e) (point-in text (places_of text at).point)

  all_digits : val (digits_of text p) ≡ whole_in text p * 10 ^ places_in p + fraction_in text p
  all_digits =
      let n = number in
      let within = n.end-within in
      let a : p.point ≤ length text = omega arith in
      let b : p.mark ≤ length text = omega arith in
      let parts : digits_of text p ≡ digits_in text p.whole p.point ++ digits_in text p.fraction p.mark =
      join-in text p.whole p.point p.mark n.whole_le (omega arith)
      ∙ ap (λ (ds : List ℕ). digits_in text p.whole p.point ++ ds)
      (join-in text p.point p.fraction p.mark n.point-le n.fraction-le ∙ ap (λ (ds : List ℕ). ds ++ digits_in text p.fraction p.mark) no-digit-between) in
      ap val parts
      ∙ val-append (digits_in text p.whole p.point) (digits_in text p.fraction p.mark)
      ∙ ap (λ (z : ℕ). val (digits_in text p.whole p.point) * 10 ^ z + val (digits_in text p.fraction p.mark))
      (run_in text p.fraction p.mark n.fraction-le b n.fraction-digits)
      ∙ ap (λ (z : ℕ). z * 10 ^ places_in p + val (digits_in text p.fraction p.mark)) (sym (figure-is text p.whole p.point n.whole_le a n.whole-digits))
      ∙ ap (λ (z : ℕ). whole_in text p * 10 ^ places_in p + z) (sym (figure-is text p.fraction p.mark n.fraction-le b n.fraction-digits))

  power-is : power_of text p ≡ exponent_in text p
  power-is = let n = number in sym (figure-is text p.exponent p.end n.exponent-le n.end-within n.exponent-digits)

  -- ---- the exponent's sign

  lowers-falls : Lowers text p → falls text p ≡ true
  unfolding falls
  lowers-falls l = rw (lt-ltb p.mark p.exponent l.0, l.1) refl

  other-rises : (Lowers text p → ⊥) → falls text p ≡ false
  unfolding falls
  other-rises never =
      ⊎_elim
      (λ f. let both = both_true (ltb p.mark p.exponent) (eqb (get_or text (p.mark + 1) 0) 45) f in absurd (never (ltb-true p.mark p.exponent both.0, eqb-true _ _ both.1)))
      (λ f. f) (either_way (falls text p))

  -- ---- the fraction

  pub parts-exact : Exact text p (numerator text p) (denominator text p)
  unfolding rise_of fall_of
  parts-exact =
      record {
        some = ten-pos _;
        raised = λ never. let f = other-rises never in rw f (upward (val (digits_of text p)) (power_of text p) _ _ (places_in p) all_digits power-is);
        lowered = λ l. let f = lowers-falls l in rw f (downward (val (digits_of text p)) (power_of text p) _ _ (places_in p) all_digits power-is);
      }
    where
      upward : (d x v y f : ℕ) → d ≡ v → x ≡ y → d * 10 ^ x * 10 ^ f ≡ v * 10 ^ y * 10 ^ (f + 0)
      upward d x v y f e g = let z : f + 0 ≡ f = omega arith in rw (e, g, z) refl

      downward : (d x v y f : ℕ) → d ≡ v → x ≡ y → d * 10 ^ 0 * 10 ^ f * 10 ^ y ≡ v * 10 ^ (f + x)
      downward d x v y f e g =
          ap (λ (z : ℕ). z * 10 ^ f * 10 ^ y) (mul-one d)
          ∙ mul_assoc d (10 ^ f) (10 ^ y)
          ∙ ap (λ (z : ℕ). d * z) (sym (pow-add 10 f y))
          ∙ ap (λ (z : ℕ). d * 10 ^ (f + z)) (sym g)
          ∙ ap (λ (z : ℕ). z * 10 ^ (f + x)) e

-- of a value that is nearest, the fraction that it is nearest to
pub value-exact : {text : List ℕ} {at : ℕ} {x : Float} {next : ℕ} (v : ValueAt text at x next) → Exact text v.places (numerator text v.places) (denominator text v.places)
value-exact {text} {at} v = parts-exact text at v.places v.scanned
