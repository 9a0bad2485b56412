-- The parts of a number: the code's ways out, the order of the places, and what a scanned number has. Assumes nothing.
use Prim.Native.Nat.{ℕ, ◌+◌, ◌≤◌, ◌<◌}
use mathlib.Core.Path.{◌≡◌, refl, sym, subst, ◌∙◌, ap}
use mathlib.Core.Bool.{Bool, true, false, ◌&&◌, cond}
use mathlib.Core.Logic.{◌⊎◌, inl, inr, ⊎_elim}
use mathlib.Core.List.{List}
use Rattle.std.specs.Prelude.{Result, Ok, Err}
use native.Mathlib.Omega.{arith}
use lib.Dec.{ltb, eqb}
use borrow.Author.Tests.{eq-eqb, eqb-true, eqb-false, ltb-true, ltb-false}
use lib.ListN.{length, get_or}
use Rattle.scan.specs.Bytes.{among, digits, signs, points, exponent_marks}
use Rattle.scan.specs.Runs.{stands, past_digits_of, past_sign_of, past_point_of, past_mark_of}
use Rattle.scan.specs.Numbers.{whole_of, point_of, fraction_of, mark_of, exponent_of, end_of, places_of, no_digit, no_exponent_digit, scan_number_of, NumberAt}
use Rattle.scan.specs.declared.numbers.Places.{Places}
use Rattle.scan.specs.declared.numbers.NumberError.{NumberError}
use Rattle.scan.specs.declared.numbers.NumberError.TheVariants.{NoDigit, NoExponentDigit}
use Rattle.scan.proofs.ByteLaws.{clash, either_way, both_true}
use Rattle.scan.proofs.RunLaws.{stands-inside, stands-past, stands-within, one_end, one-onward, one-within, all_end, all-onward, all-within, all-passed, all-again}

-- ---- the e of an exponent

module _ (text : List ℕ) (at : ℕ) where
  pub mark-taken : at < length text → among (get_or text at 0) exponent_marks ≡ true → past_sign_of text (at + 1) ≡ past_mark_of text at
  unfolding past_mark_of
  mark-taken inside is = sym (ap (λ t. cond t (past_sign_of text (at + 1)) at) (stands-inside exponent_marks text at inside ∙ is))

  pub mark-left : at < length text → among (get_or text at 0) exponent_marks ≡ false → at ≡ past_mark_of text at
  unfolding past_mark_of
  mark-left inside isnt = sym (ap (λ t. cond t (past_sign_of text (at + 1)) at) (stands-inside exponent_marks text at inside ∙ isnt))

  pub mark-end : length text ≤ at → at ≡ past_mark_of text at
  unfolding past_mark_of
  mark-end past = sym (ap (λ t. cond t (past_sign_of text (at + 1)) at) (stands-past exponent_marks text at past))

  pub mark-none : stands text at exponent_marks ≡ false → past_mark_of text at ≡ at
  unfolding past_mark_of
  mark-none h = ap (λ t. cond t (past_sign_of text (at + 1)) at) h

-- ---- the ways out of `scan_number`

module _ (text : List ℕ) (at w p f m : ℕ)
    (whole : w ≡ past_sign_of text at) (point : p ≡ past_digits_of text w) (fraction : f ≡ past_point_of text p) (mark : m ≡ past_digits_of text f) where
  whole_is : w ≡ whole_of text at
  unfolding whole_of
  whole_is = whole

  point-is : p ≡ point_of text at
  unfolding point_of
  point-is = point ∙ ap (past_digits_of text) whole_is

  fraction-is : f ≡ fraction_of text at
  unfolding fraction_of
  fraction-is = fraction ∙ ap (past_point_of text) point-is

  mark-is : m ≡ mark_of text at
  unfolding mark_of
  mark-is = mark ∙ ap (past_digits_of text) fraction-is

  digits-is : (eqb w p && eqb f m) ≡ no_digit text at
  unfolding no_digit
  digits-is = rw (whole_is, point-is, fraction-is, mark-is) refl

  -- no digit at all
  pub number-none : (eqb w p && eqb f m) ≡ true → Err (NoDigit at) ≡ scan_number_of text at
  unfolding scan_number_of
  number-none h = rw (sym digits-is ∙ h) refl

  module _ (x e : ℕ) (exponent : x ≡ past_mark_of text m) (end : e ≡ past_digits_of text x) (some : (eqb w p && eqb f m) ≡ false) where
    exponent-is : x ≡ exponent_of text at
    unfolding exponent_of
    exponent-is = exponent ∙ ap (past_mark_of text) mark-is

    end_is : e ≡ end_of text at
    unfolding end_of
    end_is = end ∙ ap (past_digits_of text) exponent-is

    exponent-digits-is : (ltb m x && eqb x e) ≡ no_exponent_digit text at
    unfolding no_exponent_digit
    exponent-digits-is = rw (mark-is, exponent-is, end_is) refl

    -- an e without a digit
    pub number-bare : (ltb m x && eqb x e) ≡ true → Err (NoExponentDigit m) ≡ scan_number_of text at
    unfolding scan_number_of
    number-bare h = rw (sym digits-is ∙ some, sym exponent-digits-is ∙ h) (ap (λ n. Err (NoExponentDigit n)) mark-is)

    places_is : record { start = at; whole = w; point = p; fraction = f; mark = m; exponent = x; end = e } ≡ places_of text at
    unfolding places_of
    places_is = rw (whole_is, point-is, fraction-is, mark-is, exponent-is, end_is) refl

    -- a number
    pub number-found :
        (ltb m x && eqb x e) ≡ false
        → Ok (record { start = at; whole = w; point = p; fraction = f; mark = m; exponent = x; end = e }) ≡ scan_number_of text at
    unfolding scan_number_of
    number-found h = rw (sym digits-is ∙ some, sym exponent-digits-is ∙ h) (ap Ok places_is)

-- ---- what a scanned number has

abbrev variant : Result Places NumberError → ℕ
variant (Ok p) = 0
variant (Err (NoDigit at)) = 1
variant (Err (NoExponentDigit at)) = 2

abbrev places_in : Places → Result Places NumberError → Places
places_in q (Ok p) = p
places_in q (Err e) = q

abbrev carried : Result Places NumberError → ℕ
carried (Ok p) = 0
carried (Err (NoDigit at)) = at
carried (Err (NoExponentDigit at)) = at

different : {a b : Result Places NumberError} → a ≡ b → (variant a ≡ variant b → ⊥) → ⊥
different e h = h (ap variant e)

module _ (text : List ℕ) (at : ℕ) where
  -- which of the three ways a scan went
  pub data Way (r : Result Places NumberError) : Type 0 where
    scanned : no_digit text at ≡ false → no_exponent_digit text at ≡ false → r ≡ Ok (places_of text at) → Way r
    without-digit : no_digit text at ≡ true → r ≡ Err (NoDigit at) → Way r
    without-exponent-digit : no_digit text at ≡ false → no_exponent_digit text at ≡ true → r ≡ Err (NoExponentDigit (mark_of text at)) → Way r

  pub way : Way (scan_number_of text at)
  unfolding scan_number_of
  way = go (no_digit text at) refl (no_exponent_digit text at) refl
    where
      go :
          (a : Bool) → no_digit text at ≡ a → (b : Bool) → no_exponent_digit text at ≡ b
          → Way (cond (no_digit text at) (Err (NoDigit at)) (cond (no_exponent_digit text at) (Err (NoExponentDigit (mark_of text at))) (Ok (places_of text at))))
      go true e b g = without-digit e (rw e refl)
      go false e true g = without-exponent-digit e g (rw (e, g) refl)
      go false e false g = scanned e g (rw (e, g) refl)

  -- ---- the order of the places

  pub whole-onward : at ≤ whole_of text at
  unfolding whole_of
  whole-onward = one-onward signs text at

  pub point-onward : whole_of text at ≤ point_of text at
  unfolding point_of
  point-onward = all-onward digits text (whole_of text at)

  pub fraction-onward : point_of text at ≤ fraction_of text at
  unfolding fraction_of
  fraction-onward = one-onward points text (point_of text at)

  pub mark-onward : fraction_of text at ≤ mark_of text at
  unfolding mark_of
  mark-onward = all-onward digits text (fraction_of text at)

  past-mark-onward : (i : ℕ) → i ≤ past_mark_of text i
  unfolding past_mark_of
  past-mark-onward i = go (stands text i exponent_marks)
    where
      go : (t : Bool) → i ≤ cond t (past_sign_of text (i + 1)) i
      go true = let h = one-onward signs text (i + 1) in omega arith
      go false = omega arith

  pub exponent-onward : mark_of text at ≤ exponent_of text at
  unfolding exponent_of
  exponent-onward = past-mark-onward (mark_of text at)

  pub end-onward : exponent_of text at ≤ end_of text at
  unfolding end_of
  end-onward = all-onward digits text (exponent_of text at)

  -- ---- past the text there is no number

  module _ (past : length text ≤ at) where
    whole-past : whole_of text at ≡ at
    unfolding whole_of
    whole-past = sym (one_end signs text at past)

    point-past : point_of text at ≡ at
    unfolding point_of
    point-past = ap (past_digits_of text) whole-past ∙ all_end digits text at past

    fraction-past : fraction_of text at ≡ at
    unfolding fraction_of
    fraction-past = ap (past_point_of text) point-past ∙ sym (one_end points text at past)

    mark-past : mark_of text at ≡ at
    unfolding mark_of
    mark-past = ap (past_digits_of text) fraction-past ∙ all_end digits text at past

    pub none-past : no_digit text at ≡ true
    unfolding no_digit
    none-past = simp (eq-eqb (whole_of text at) (point_of text at) (whole-past ∙ sym point-past), eq-eqb (fraction_of text at) (mark_of text at) (fraction-past ∙ sym mark-past))

  -- ---- within the text a number stays there

  past-mark-within : (i : ℕ) → i ≤ length text → past_mark_of text i ≤ length text
  unfolding past_mark_of
  past-mark-within i inside = go (stands text i exponent_marks) refl
    where
      go : (t : Bool) → stands text i exponent_marks ≡ t → cond t (past_sign_of text (i + 1)) i ≤ length text
      go true e = let h = stands-within exponent_marks text i e in one-within signs text (i + 1) (omega arith)
      go false e = inside

  pub end-within : at ≤ length text → end_of text at ≤ length text
  unfolding whole_of point_of fraction_of mark_of exponent_of end_of
  end-within inside =
      all-within digits text _ (past-mark-within _ (all-within digits text _ (one-within points text _ (all-within digits text _ (one-within signs text at inside)))))

  -- ---- a digit in all, and one in an exponent

  pub digit-in-all : no_digit text at ≡ false → whole_of text at + fraction_of text at < point_of text at + mark_of text at
  unfolding no_digit
  digit-in-all some = go (eqb (whole_of text at) (point_of text at)) refl (eqb (fraction_of text at) (mark_of text at)) refl some
    where
      go :
          (a : Bool) → eqb (whole_of text at) (point_of text at) ≡ a → (b : Bool) → eqb (fraction_of text at) (mark_of text at) ≡ b
          → (a && b) ≡ false → whole_of text at + fraction_of text at < point_of text at + mark_of text at
      go true e true g h = absurd (clash refl h)
      go true e false g h = omega (arith, eqb-false (fraction_of text at) (mark_of text at) g, point-onward, mark-onward)
      go false e b g h = omega (arith, eqb-false (whole_of text at) (point_of text at) e, point-onward, mark-onward)

  pub digit-in-none : no_digit text at ≡ true → (whole_of text at ≡ point_of text at) × (fraction_of text at ≡ mark_of text at)
  unfolding no_digit
  digit-in-none h = let p = both_true _ _ h in (eqb-true _ _ p.0, eqb-true _ _ p.1)

  pub exponent-in-none : no_exponent_digit text at ≡ true → (mark_of text at < exponent_of text at) × (exponent_of text at ≡ end_of text at)
  unfolding no_exponent_digit
  exponent-in-none h = let p = both_true _ _ h in (ltb-true _ _ p.0, eqb-true _ _ p.1)

  exponent-none : stands text (mark_of text at) exponent_marks ≡ false → exponent_of text at ≡ mark_of text at
  unfolding exponent_of
  exponent-none h = mark-none text (mark_of text at) h

  -- an e stands within the text
  pub mark-before : no_exponent_digit text at ≡ true → mark_of text at < length text
  mark-before h =
      ⊎_elim (λ e. stands-within exponent_marks text _ e) (λ e. absurd (let lt = (exponent-in-none h).0 in omega (arith, exponent-none e)))
      (either_way (stands text (mark_of text at) exponent_marks))

  -- without an e the number ends where its e would stand
  no-mark : exponent_of text at ≡ mark_of text at → end_of text at ≡ mark_of text at
  unfolding end_of mark_of
  no-mark e = ap (past_digits_of text) e ∙ all-again digits text (fraction_of text at)

  pub exponent-in-all :
      no_exponent_digit text at ≡ false
      → ((mark_of text at < exponent_of text at) × (exponent_of text at < end_of text at)) ⊎ (mark_of text at ≡ end_of text at)
  unfolding no_exponent_digit
  exponent-in-all some = go (ltb (mark_of text at) (exponent_of text at)) refl (eqb (exponent_of text at) (end_of text at)) refl some
    where
      go :
          (a : Bool) → ltb (mark_of text at) (exponent_of text at) ≡ a → (b : Bool) → eqb (exponent_of text at) (end_of text at) ≡ b
          → (a && b) ≡ false
          → ((mark_of text at < exponent_of text at) × (exponent_of text at < end_of text at)) ⊎ (mark_of text at ≡ end_of text at)
      go true e true g h = absurd (clash refl h)
      go true e false g h = inl (ltb-true _ _ e, omega (arith, eqb-false (exponent_of text at) (end_of text at) g, end-onward))
      go false e b g h = inr (sym (no-mark (omega (arith, ltb-false (mark_of text at) (exponent_of text at) e, exponent-onward))))

  -- ---- a scanned number is one

  whole_run : (k : ℕ) → whole_of text at ≤ k → k < point_of text at → among (get_or text k 0) digits ≡ true
  unfolding point_of
  whole_run = all-passed digits text (whole_of text at)

  fraction-run : (k : ℕ) → fraction_of text at ≤ k → k < mark_of text at → among (get_or text k 0) digits ≡ true
  unfolding mark_of
  fraction-run = all-passed digits text (fraction_of text at)

  exponent-run : (k : ℕ) → exponent_of text at ≤ k → k < end_of text at → among (get_or text k 0) digits ≡ true
  unfolding end_of
  exponent-run = all-passed digits text (exponent_of text at)

  pub places-number : no_digit text at ≡ false → no_exponent_digit text at ≡ false → NumberAt text (places_of text at)
  unfolding places_of
  places-number some whole =
      record {
        start-le = whole-onward;
        whole_le = point-onward;
        point-le = fraction-onward;
        fraction-le = mark-onward;
        mark-le = exponent-onward;
        exponent-le = end-onward;
        end-within = ⊎_elim (λ e. end-within (ltb-le e)) (λ e. absurd (clash (none-past (ltb-false _ _ e)) some)) (either_way (ltb at (length text)));
        whole-digits = whole_run;
        fraction-digits = fraction-run;
        exponent-digits = exponent-run;
        some-digit = digit-in-all some;
        exponent-or-none = exponent-in-all whole;
      }
    where
      ltb-le : ltb at (length text) ≡ true → at ≤ length text
      ltb-le e = omega (arith, ltb-true at (length text) e)

  -- what each answer says of the text
  pub scanned-flags : (p : Places) → scan_number_of text at ≡ Ok p → (no_digit text at ≡ false) × (no_exponent_digit text at ≡ false)
  scanned-flags p e = go way
    where
      go : Way (scan_number_of text at) → (no_digit text at ≡ false) × (no_exponent_digit text at ≡ false)
      go (scanned some whole h) = (some, whole)
      go (without-digit _ h) = absurd (different (sym e ∙ h) (λ z. omega arith))
      go (without-exponent-digit _ _ h) = absurd (different (sym e ∙ h) (λ z. omega arith))

  pub bare-flags : (m : ℕ) → scan_number_of text at ≡ Err (NoExponentDigit m) → (no_digit text at ≡ false) × (no_exponent_digit text at ≡ true) × (m ≡ mark_of text at)
  bare-flags m e = go way
    where
      go : Way (scan_number_of text at) → (no_digit text at ≡ false) × (no_exponent_digit text at ≡ true) × (m ≡ mark_of text at)
      go (scanned _ _ h) = absurd (different (sym e ∙ h) (λ z. omega arith))
      go (without-digit _ h) = absurd (different (sym e ∙ h) (λ z. omega arith))
      go (without-exponent-digit some bare h) = (some, bare, ap carried (sym e ∙ h))

  pub none-flags : (i : ℕ) → scan_number_of text at ≡ Err (NoDigit i) → (no_digit text at ≡ true) × (i ≡ at)
  none-flags i e = go way
    where
      go : Way (scan_number_of text at) → (no_digit text at ≡ true) × (i ≡ at)
      go (scanned _ _ h) = absurd (different (sym e ∙ h) (λ z. omega arith))
      go (without-digit none h) = (none, ap carried (sym e ∙ h))
      go (without-exponent-digit _ _ h) = absurd (different (sym e ∙ h) (λ z. omega arith))

  -- its places are those of the definition
  pub scanned-places : (p : Places) → scan_number_of text at ≡ Ok p → p ≡ places_of text at
  scanned-places p e = go way
    where
      go : Way (scan_number_of text at) → p ≡ places_of text at
      go (scanned _ _ h) = ap (places_in p) (sym e ∙ h)
      go (without-digit _ h) = absurd (different (sym e ∙ h) (λ z. omega arith))
      go (without-exponent-digit _ _ h) = absurd (different (sym e ∙ h) (λ z. omega arith))

  pub scanned-number : (p : Places) → scan_number_of text at ≡ Ok p → NumberAt text p
  scanned-number p e =
      let f = scanned-flags p e in
      subst (NumberAt text) (sym (scanned-places p e)) (places-number f.0 f.1)

  -- it starts where it was looked for, and ends further on
  pub scanned-start : (p : Places) → scan_number_of text at ≡ Ok p → p.start ≡ at
  unfolding places_of
  scanned-start p e = ap (λ (q : Places). q.start) (scanned-places p e)

  pub scanned-ahead : (p : Places) → scan_number_of text at ≡ Ok p → at < p.end
  scanned-ahead p e =
      let n = scanned-number p e in
      let h = scanned-start p e in
      omega (arith, n.start-le, n.whole_le, n.point-le, n.fraction-le, n.mark-le, n.exponent-le, n.some-digit)
