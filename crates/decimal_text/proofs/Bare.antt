-- 4 at the number: the scan gives an exponent without a digit where one stands and nowhere else, with the place of its e. Assumes nothing.
use Prim.Native.Nat.{ℕ, ◌+◌, ◌<◌}
use mathlib.Core.Path.{◌≡◌, refl, sym, ap, subst, ◌∙◌}
use mathlib.Core.Bool.{true, false, cond}
use mathlib.Core.List.{List}
use mathlib.Core.Logic.{◌⊎◌, inl, inr, ⊎_elim}
use native.Mathlib.Omega.{arith}
use Rattle.answers.specs.declared.refusals.Refusal.TheVariants.{InvalidNumber}
use Rattle.scan.specs.Bytes.{among, digits, signs, points, exponent_marks}
use Rattle.scan.specs.Runs.{stands, past_mark_of, past_sign_of, past_digits_of}
use Rattle.scan.specs.Numbers.{whole_of, point_of, fraction_of, mark_of, exponent_of, end_of, no_digit, scan_number_of}
use Rattle.scan.specs.declared.numbers.Places.{Places}
use Rattle.scan.specs.declared.numbers.NumberError.{NumberError}
use Rattle.scan.specs.declared.numbers.NumberError.TheVariants.{NoDigit, NoExponentDigit}
use Rattle.scan.proofs.ByteLaws.{either_way}
use Rattle.scan.proofs.RunLaws.{one-step, one-onward, all-again, all-stopped}
use Rattle.scan.proofs.NumberLaws.{Way, scanned, without-digit, without-exponent-digit, way, bare-flags, mark-none, digit-in-all, digit-in-none, exponent-in-all, exponent-in-none, point-onward, mark-onward}
use Rattle.strict_grammar.specs.Spans.{opt, star, none, more, plus}
use Rattle.strict_grammar.proofs.SpanLaws.{standing, other, star-stops, plus-lt, plus-star, star-plus, star-or, run-same, run-found}
use Rattle.decimal.specs.Decimal.{read_of, number_of}
use Rattle.std.specs.Prelude.{Result, Ok, Err}
use Rattle.decimal_text.specs.Converts.{Digit, Sign, Point, Mantissa, BareExponent}

module _ (text : List ℕ) where
  -- ---- signs and runs, by what stands there

  sign-passed : (i : ℕ) → opt (Sign text) i (past_sign_of text i)
  sign-passed i =
      ⊎_elim (λ h. inl (record { there = h; next = (one-step signs text i).0 h })) (λ h. inr (sym ((one-step signs text i).1 h))) (either_way (stands text i signs))

  -- a sign or none before what is no sign is the sign passed
  sign-only : (i j : ℕ) → opt (Sign text) i j → stands text j signs ≡ false → j ≡ past_sign_of text i
  sign-only i j (inl b) h = b.next ∙ sym ((one-step signs text i).0 b.there)
  sign-only i j (inr e) h = sym e ∙ sym ((one-step signs text i).1 (subst (λ (z : ℕ). stands text z signs ≡ false) (sym e) h))

  -- no digit stands at a place: the run from there is empty
  run-empty : (i : ℕ) → stands text i digits ≡ false → past_digits_of text i ≡ i
  run-empty i h = sym (star-stops h (run-found digits text i).0)

  -- a run of digits up to what is no digit
  run_is : (i k : ℕ) → star (Digit text) i k → stands text k digits ≡ false → k ≡ past_digits_of text i
  run_is i k s h = run-same (run-found digits text i) s h

  mark-no-digit : (k : ℕ) → stands text k exponent_marks ≡ true → stands text k digits ≡ false
  unfolding among
  mark-no-digit k h = other {l = exponent_marks} digits tt (standing exponent_marks k h)

  mark-no-point : (k : ℕ) → stands text k exponent_marks ≡ true → stands text k points ≡ false
  unfolding among
  mark-no-point k h = other {l = exponent_marks} points tt (standing exponent_marks k h)

  point-no-digit : {i j : ℕ} → Point text i j → stands text i digits ≡ false
  unfolding among
  point-no-digit b = other {l = points} digits tt b

  digit-no-sign : {i j : ℕ} → Digit text i j → stands text i signs ≡ false
  unfolding among
  digit-no-sign b = other {l = digits} signs tt b

  point-no-sign : {i j : ℕ} → Point text i j → stands text i signs ≡ false
  unfolding among
  point-no-sign b = other {l = points} signs tt b

  sign-no-digit : {i j : ℕ} → Sign text i j → stands text i digits ≡ false
  unfolding among
  sign-no-digit b = other {l = signs} digits tt b

  -- a mantissa starts with a digit or a point
  mantissa-no-sign : (i k : ℕ) → Mantissa text i k → stands text i signs ≡ false
  unfolding Mantissa
  mantissa-no-sign i k (inl d) = digit-no-sign d.1
  mantissa-no-sign i k (inr (inl (p, d, x))) = digit-no-sign d.1
  mantissa-no-sign i k (inr (inr (p, none e, (q, b, d)))) = subst (λ (z : ℕ). stands text z signs ≡ false) (sym e) (point-no-sign b)
  mantissa-no-sign i k (inr (inr (p, more d s, x))) = digit-no-sign d

module _ (text : List ℕ) (at : ℕ) where
  mark-is : stands text (mark_of text at) exponent_marks ≡ true → exponent_of text at ≡ past_sign_of text (mark_of text at + 1)
  unfolding exponent_of past_mark_of
  mark-is h = ap (λ t. cond t (past_sign_of text (mark_of text at + 1)) (mark_of text at)) h

  exponent-none : stands text (mark_of text at) exponent_marks ≡ false → exponent_of text at ≡ mark_of text at
  unfolding exponent_of
  exponent-none h = mark-none text (mark_of text at) h

  -- ---- what stands before the e

  whole-digits : star (Digit text) (whole_of text at) (point_of text at)
  unfolding point_of
  whole-digits = (run-found digits text (whole_of text at)).0

  fraction-digits : star (Digit text) (fraction_of text at) (mark_of text at)
  unfolding mark_of
  fraction-digits = (run-found digits text (fraction_of text at)).0

  point-step : (stands text (point_of text at) points ≡ true → fraction_of text at ≡ point_of text at + 1) × (stands text (point_of text at) points ≡ false → fraction_of text at ≡ point_of text at)
  unfolding fraction_of
  point-step = one-step points text (point_of text at)

  no_fraction : fraction_of text at ≡ point_of text at → mark_of text at ≡ point_of text at
  unfolding mark_of point_of
  no_fraction e = ap (past_digits_of text) e ∙ all-again digits text (whole_of text at)

  mantissa-there : no_digit text at ≡ false → Mantissa text (whole_of text at) (mark_of text at)
  unfolding Mantissa
  mantissa-there some = ⊎_elim pointed plain (either_way (stands text (point_of text at) points))
    where
      few : whole_of text at + fraction_of text at < point_of text at + mark_of text at
      few = digit-in-all text at some

      pointed : stands text (point_of text at) points ≡ true → Mantissa text (whole_of text at) (mark_of text at)
      pointed h =
          let b : Point text (point_of text at) (fraction_of text at) = record { there = h; next = point-step.0 h } in
          ⊎_elim
          (λ (e : whole_of text at ≡ point_of text at). inr (inr (point_of text at, none e, (fraction_of text at, b, star-plus fraction-digits (omega (arith, few))))))
          (λ d. inr (inl (point_of text at, d, (fraction_of text at, b, fraction-digits))))
          (star-or whole-digits)

      plain : stands text (point_of text at) points ≡ false → Mantissa text (whole_of text at) (mark_of text at)
      plain h =
          let e = point-step.1 h in
          let f = no_fraction e in
          inl (subst (λ (z : ℕ). plus (Digit text) (whole_of text at) z) (sym f) (star-plus whole-digits (omega (arith, few))))

  -- ---- the scan's answer says it

  behind-mark : stands text (mark_of text at) exponent_marks ≡ true → exponent_of text at ≡ end_of text at → (j : ℕ) → opt (Sign text) (mark_of text at + 1) j → stands text j digits ≡ false
  unfolding end_of
  behind-mark m e j o = go o
    where
      empty : stands text (exponent_of text at) digits ≡ false
      empty = subst (λ (z : ℕ). stands text z digits ≡ false) (sym e) (all-stopped digits text (exponent_of text at))

      here : j ≡ past_sign_of text (mark_of text at + 1) → stands text j digits ≡ false
      here h = subst (λ (z : ℕ). stands text z digits ≡ false) (mark-is m ∙ sym h) empty

      go : opt (Sign text) (mark_of text at + 1) j → stands text j digits ≡ false
      go (inl b) = here (b.next ∙ sym ((one-step signs text (mark_of text at + 1)).0 b.there))
      go (inr z) =
          ⊎_elim
          (λ s. subst (λ (y : ℕ). stands text y digits ≡ false) z (sign-no-digit text (standing signs (mark_of text at + 1) s)))
          (λ s. here (sym z ∙ sym ((one-step signs text (mark_of text at + 1)).1 s)))
          (either_way (stands text (mark_of text at + 1) signs))

  whole-passed : opt (Sign text) at (whole_of text at)
  unfolding whole_of
  whole-passed = sign-passed text at

  pub bare-scanned : (k : ℕ) → scan_number_of text at ≡ Err (NoExponentDigit k) → BareExponent text at k
  bare-scanned k e =
      let f = bare-flags text at k e in
      let x = exponent-in-none text at f.1 in
      let m : stands text (mark_of text at) exponent_marks ≡ true =
      ⊎_elim (λ h. h) (λ h. absurd (omega (arith, exponent-none h, x.0))) (either_way (stands text (mark_of text at) exponent_marks)) in
      subst (λ (z : ℕ). BareExponent text at z) (sym f.2)
      (record { whole = whole_of text at; sign = whole-passed; before = mantissa-there f.0; mark = m; behind = behind-mark m x.1 })

  -- ---- and only it

  whole-only : (i k : ℕ) → opt (Sign text) at i → Mantissa text i k → i ≡ whole_of text at
  unfolding whole_of
  whole-only i k o m = sign-only text at i o (mantissa-no-sign text i k m)

  -- digits before the e, with a point or without: the scan's places
  record Found (k : ℕ) : Type 0 where
    there : k ≡ mark_of text at
    some : whole_of text at + fraction_of text at < point_of text at + mark_of text at

  plain-found : (k : ℕ) → plus (Digit text) (whole_of text at) k → stands text k exponent_marks ≡ true → Found k
  unfolding point_of
  plain-found k d m =
      let e : k ≡ point_of text at = run_is text (whole_of text at) k (plus-star d) (mark-no-digit text k m) in
      let f : fraction_of text at ≡ point_of text at = point-step.1 (subst (λ (z : ℕ). stands text z points ≡ false) e (mark-no-point text k m)) in
      let g : mark_of text at ≡ point_of text at = no_fraction f in
      record { there = e ∙ sym g; some = omega (arith, plus-lt d) }

  pointed-found : (p q k : ℕ) → star (Digit text) (whole_of text at) p → Point text p q → star (Digit text) q k → (whole_of text at < p) ⊎ (q < k) → stands text k exponent_marks ≡ true → Found k
  unfolding point_of mark_of
  pointed-found p q k s b t one m =
      let e : p ≡ point_of text at = run_is text (whole_of text at) p s (point-no-digit text b) in
      let f : fraction_of text at ≡ point_of text at + 1 = point-step.0 (subst (λ (z : ℕ). stands text z points ≡ true) e b.there) in
      let g : q ≡ fraction_of text at = b.next ∙ ap (λ (z : ℕ). z + 1) e ∙ sym f in
      let h : k ≡ mark_of text at = run_is text q k t (mark-no-digit text k m) ∙ ap (past_digits_of text) g in
      record { there = h; some = count one e g h }
    where
      count : (whole_of text at < p) ⊎ (q < k) → p ≡ point_of text at → q ≡ fraction_of text at → k ≡ mark_of text at → whole_of text at + fraction_of text at < point_of text at + mark_of text at
      count (inl l) e g h = omega (arith, mark-onward text at)
      count (inr l) e g h = omega (arith, point-onward text at)

  found : (k : ℕ) → Mantissa text (whole_of text at) k → stands text k exponent_marks ≡ true → Found k
  unfolding Mantissa
  found k (inl d) m = plain-found k d m
  found k (inr (inl (p, d, (q, b, s)))) m = pointed-found p q k (plus-star d) b s (inl (plus-lt d)) m
  found k (inr (inr (p, s, (q, b, d)))) m = pointed-found p q k s b (plus-star d) (inr (plus-lt d)) m

  end_is : stands text (exponent_of text at) digits ≡ false → end_of text at ≡ exponent_of text at
  unfolding end_of
  end_is h = run-empty text (exponent_of text at) h

  pub bare-only : (k : ℕ) → BareExponent text at k → scan_number_of text at ≡ Err (NoExponentDigit k)
  bare-only k b = go (way text at)
    where
      start : b.whole ≡ whole_of text at
      start = whole-only b.whole k b.sign b.before

      at_mark : Found k
      at_mark = found k (subst (λ (z : ℕ). Mantissa text z k) start b.before) b.mark

      mark : stands text (mark_of text at) exponent_marks ≡ true
      mark = subst (λ (z : ℕ). stands text z exponent_marks ≡ true) at_mark.there b.mark

      empty : end_of text at ≡ exponent_of text at
      empty =
          end_is (subst (λ (z : ℕ). stands text z digits ≡ false) (sym (mark-is mark))
          (b.behind (past_sign_of text (mark_of text at + 1)) (subst (λ (z : ℕ). opt (Sign text) (z + 1) (past_sign_of text (mark_of text at + 1))) (sym at_mark.there) (sign-passed text (mark_of text at + 1)))))

      go : Way text at (scan_number_of text at) → scan_number_of text at ≡ Err (NoExponentDigit k)
      go (scanned some whole e) =
          ⊎_elim (λ h. absurd (omega (arith, h.1, empty))) (λ h. absurd (omega (arith, h, empty, mark-is mark, one-onward signs text (mark_of text at + 1)))) (exponent-in-all text at whole)
      go (without-digit lacking e) = let h = digit-in-none text at lacking in absurd (omega (arith, h.0, h.1, at_mark.some))
      go (without-exponent-digit some bare e) = e ∙ ap (λ (n : ℕ). Err (NoExponentDigit n)) (sym at_mark.there)

  -- ---- the same of the number's answer

  abbrev Four : ℕ → Type 0
  Four k = number_of text at ≡ Err (InvalidNumber k)

  pub number-bare : (k : ℕ) → Four k → BareExponent text at k
  unfolding number_of
  number-bare k q = go (scan_number_of text at) refl q
    where
      go : (n : Result Places NumberError) → scan_number_of text at ≡ n → read_of text n ≡ Err (InvalidNumber k) → BareExponent text at k
      go (Ok p) e q = let z : ◌≡◌ {A = ℕ} 0 1 = cc in absurd (omega arith)
      go (Err (NoDigit j)) e q = let z : ◌≡◌ {A = ℕ} 0 1 = cc in absurd (omega arith)
      go (Err (NoExponentDigit j)) e q = let z : j ≡ k = cc in bare-scanned k (e ∙ ap (λ (n : ℕ). Err (NoExponentDigit n)) z)

  pub bare-number : (k : ℕ) → BareExponent text at k → Four k
  unfolding number_of
  bare-number k b = ap (read_of text) (bare-only k b)
