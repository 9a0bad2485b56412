-- A number found in one pass: its places are those of the scan, and what is gathered on the way is what its value needs. Assumes nothing.
use Prim.Native.Nat.{ℕ, ◌+◌, ◌-◌, ◌≤◌, ◌<◌}
use mathlib.Core.Path.{◌≡◌, refl, ap, sym, ◌∙◌, subst}
use mathlib.Core.Logic.{⊎_elim}
use mathlib.Core.List.{List, [], ◌++◌}
use mathlib.Core.Bool.{Bool, true, false, ◌&&◌}
use native.Mathlib.Nat.{le_refl, le_trans}
use native.Mathlib.Omega.{arith}
use lib.Dec.{ltb, eqb}
use borrow.Author.Tests.{lt-ltb, le-ltb, eq-eqb, ne_eqb}
use lib.ListN.{length, get_or, length-append}
use lib.Ieee.{Float}
use Rattle.std.specs.Prelude.{Result, Ok, Err}
use Rattle.decimal_rounding.proofs.Compares.{below_or_not}
use Rattle.answers.specs.declared.refusals.Refusal.{Refusal}
use Rattle.answers.specs.declared.refusals.Refusal.TheVariants.{ExpectedNumber, InvalidNumber}
use Rattle.scan.specs.Bytes.{among, digits, points, signs, exponent_marks}
use Rattle.scan.specs.Runs.{stands, past_digits_of, past_sign_of, past_point_of, past_mark_of}
use Rattle.scan.specs.Numbers.{scan_number_of, NumberAt}
use Rattle.scan.specs.declared.numbers.Places.{Places}
use Rattle.scan.specs.declared.numbers.NumberError.{NumberError}
use Rattle.scan.specs.declared.numbers.NumberError.TheVariants.{NoDigit, NoExponentDigit}
use Rattle.scan.proofs.ByteLaws.{either_way, apart}
use Rattle.scan.proofs.RunLaws.{byte_inside, one-step, one-onward, stands-within, stands-among, all-again}
use Rattle.scan.proofs.NumberLaws.{mark-taken, mark-left, mark-end, number-none, number-bare, number-found, scanned-number}
use Rattle.decimal_digits.specs.Digits.{digits_in, val}
use Rattle.decimal_digits.specs.Leading.{Leads, Gathers}
use Rattle.decimal_digits.specs.Exponent.{capped, exponent_of}
use Rattle.decimal_digits.specs.declared.gathering.Leading.{Leading}
use Rattle.decimal_digits.specs.declared.gathering.Power.{Power}
use Rattle.decimal_digits.proofs.Places.{none_in, join-in, other-in, run_in}
use Rattle.decimal_digits.proofs.Holding.{leads-start, leads-other}
use Rattle.decimal_digits.proofs.Capping.{size-start}
use Rattle.decimal.specs.Decimal.{digits_of, power_of, falls, rise_of, fall_of, value_of, read_at, read_of, number_of, minus}
use Rattle.decimal.specs.Bits.{Held, SaysFound, Finds}
use Rattle.decimal.specs.declared.numbers.Parts.{Parts}

-- ---- the point

-- a point is no digit
no_digit : (byte : ℕ) → among byte points ≡ true → among byte digits ≡ false
unfolding among
no_digit byte e = ⊎_elim (λ d. absurd (apart points digits tt byte e d)) (λ d. d) (either_way (among byte digits))

pub point-in : (text : List ℕ) (at : ℕ) → digits_in text at (past_point_of text at) ≡ []
point-in text at = ⊎_elim there gone (either_way (stands text at points))
  where
    there : stands text at points ≡ true → digits_in text at (past_point_of text at) ≡ []
    there e = ap (digits_in text at) ((one-step points text at).0 e) ∙ other-in text at (stands-within points text at e) (no_digit _ (stands-among points text at e))

    gone : stands text at points ≡ false → digits_in text at (past_point_of text at) ≡ []
    gone e = ap (digits_in text at) ((one-step points text at).1 e) ∙ none_in text at

pub leads-point : (text : List ℕ) (start at w dropped : ℕ) → start ≤ at → Leads (digits_in text start at) w dropped → Leads (digits_in text start (past_point_of text at)) w dropped
leads-point text start at w dropped h l = ⊎_elim there gone (either_way (stands text at points))
  where
    there : stands text at points ≡ true → Leads (digits_in text start (past_point_of text at)) w dropped
    there e = subst (λ (z : ℕ). Leads (digits_in text start z) w dropped) (sym ((one-step points text at).0 e)) (leads-other text start at w dropped h l (stands-within points text at e) (no_digit _ (stands-among points text at e)))

    gone : stands text at points ≡ false → Leads (digits_in text start (past_point_of text at)) w dropped
    gone e = subst (λ (z : ℕ). Leads (digits_in text start z) w dropped) (sym ((one-step points text at).1 e)) l

-- ---- the e

-- an e stands within the text
pub mark-inside : (text : List ℕ) (at : ℕ) → among (get_or text at 0) exponent_marks ≡ true → at < length text
unfolding among
mark-inside text at e = byte_inside exponent_marks text at refl e

pub mark-none : (text : List ℕ) (at : ℕ) → among (get_or text at 0) exponent_marks ≡ false → at ≡ past_mark_of text at
mark-none text at e = ⊎_elim (λ h. mark-left text at h e) (λ h. mark-end text at h) (below_or_not at (length text))

-- ---- the answers

pub read_is : (text : List ℕ) (at : ℕ) (r : Result Places NumberError) → r ≡ scan_number_of text at → read_of text r ≡ number_of text at
unfolding number_of
read_is text at r e = ap (read_of text) e

module _ {text : List ℕ} (at : ℕ) {whole fraction : ℕ} {first all : Leading}
    (w-is : whole ≡ past_sign_of text at) (before : Gathers text whole 0 0 first) (f-is : fraction ≡ past_point_of text first.at) (after : Gathers text fraction first.w first.dropped all) where
  pub number-no-digit : (eqb whole first.at && eqb fraction all.at) ≡ true → Err (ExpectedNumber at) ≡ number_of text at
  number-no-digit h = read_is text at (Err (NoDigit at)) (number-none text at whole first.at fraction all.at w-is before.passed f-is after.passed h)

  module _ (some : (eqb whole first.at && eqb fraction all.at) ≡ false) {x e : ℕ} (x-is : x ≡ past_mark_of text all.at) (e-is : e ≡ past_digits_of text x) where
    abbrev pub p : Places
    p = record { start = at; whole = whole; point = first.at; fraction = fraction; mark = all.at; exponent = x; end = e }

    pub number-no-exponent : (ltb all.at x && eqb x e) ≡ true → Err (InvalidNumber all.at) ≡ number_of text at
    number-no-exponent h = read_is text at (Err (NoExponentDigit all.at)) (number-bare text at whole first.at fraction all.at w-is before.passed f-is after.passed x e x-is e-is some h)

    module _ (fine : (ltb all.at x && eqb x e) ≡ false) where
      pub scanned : Ok p ≡ scan_number_of text at
      scanned = number-found text at whole first.at fraction all.at w-is before.passed f-is after.passed x e x-is e-is some fine

      fits : NumberAt text p
      fits = scanned-number text at p (sym scanned)

      leads : Leads (digits_of text p) all.w all.dropped
      leads =
          after.held whole (le_trans fits.whole_le fits.point-le)
          (subst (λ (z : ℕ). Leads (digits_in text whole z) first.w first.dropped) (sym f-is)
          (leads-point text whole first.at first.w first.dropped fits.whole_le (before.held whole (le_refl whole) (leads-start text whole))))

      inside : all.at ≤ length text
      inside = le_trans fits.mark-le (le_trans fits.exponent-le fits.end-within)

      fraction-in : digits_in text first.at all.at ≡ digits_in text fraction all.at
      fraction-in =
          join-in text first.at fraction all.at fits.point-le fits.fraction-le
          ∙ ap (λ (z : List ℕ). z ++ digits_in text fraction all.at) (ap (digits_in text first.at) f-is ∙ point-in text first.at)

      count : length (digits_of text p) ≡ (first.at - whole) + (all.at - fraction)
      count =
          ap length (join-in text whole first.at all.at fits.whole_le (le_trans fits.point-le fits.fraction-le))
          ∙ length-append (digits_in text whole first.at) (digits_in text first.at all.at)
          ∙ ap (λ (z : List ℕ). length (digits_in text whole first.at) + length z) fraction-in
          ∙ ap (λ (z : ℕ). z + length (digits_in text fraction all.at)) (run_in text whole first.at fits.whole_le (le_trans fits.point-le (le_trans fits.fraction-le inside)) fits.whole-digits)
          ∙ ap (λ (z : ℕ). (first.at - whole) + z) (run_in text fraction all.at fits.fraction-le inside fits.fraction-digits)

      pub held : (rise fall : ℕ) → rise ≡ capped (rise_of text p) → fall ≡ capped (fall_of text p) → Held text p all.w all.dropped rise fall
      held rise fall r f =
          record {
            whole_le = fits.whole_le;
            fraction-le = fits.fraction-le;
            between = fits.point-le;
            inside = inside;
            few = after.few;
            leads = leads;
            count = count;
            rises = r;
            drops = f;
          }

-- ---- the exponent by its sign

module _ (text : List ℕ) (p : Places) (size : ℕ) (size_is : size ≡ capped (power_of text p)) where
  zero-capped : 0 ≡ capped 0
  unfolding capped
  zero-capped = refl

  pub rise-falling : falls text p ≡ true → 0 ≡ capped (rise_of text p)
  unfolding rise_of
  rise-falling e = rw e zero-capped

  pub fall-falling : falls text p ≡ true → size ≡ capped (fall_of text p)
  unfolding fall_of
  fall-falling e = rw e size_is

  pub rise-rising : falls text p ≡ false → size ≡ capped (rise_of text p)
  unfolding rise_of
  rise-rising e = rw e size_is

  pub fall-rising : falls text p ≡ false → 0 ≡ capped (fall_of text p)
  unfolding fall_of
  fall-rising e = rw e zero-capped

-- no e, no exponent
pub no_power : (text : List ℕ) (p : Places) → p.exponent ≡ p.end → 0 ≡ capped (power_of text p)
no_power text p e = size-start text p.end ∙ ap (λ (z : ℕ). capped (val (digits_in text z p.end))) (sym e)

pub no-falls : (text : List ℕ) (p : Places) → p.exponent ≡ p.mark → falls text p ≡ false
unfolding falls
no-falls text p e = ap (λ (b : Bool). b && eqb (get_or text (p.mark + 1) 0) minus) (ap (λ (z : ℕ). ltb p.mark z) e ∙ le-ltb p.mark p.mark (le_refl p.mark))

pub falls-is : (text : List ℕ) (p : Places) (b : Bool) → p.mark < p.exponent → eqb (get_or text (p.mark + 1) 0) minus ≡ b → falls text p ≡ b
unfolding falls
falls-is text p b h e = ap (λ (z : Bool). z && eqb (get_or text (p.mark + 1) 0) minus) (lt-ltb p.mark p.exponent h) ∙ e

-- ---- where the exponent ends

no-mark : (m : ℕ) → (ltb m m && eqb m m) ≡ false
no-mark m = ap (λ (b : Bool). b && eqb m m) (le-ltb m m (le_refl m))

with-digit : (m x e : ℕ) → (x ≡ e → ⊥) → (ltb m x && eqb x e) ≡ false
with-digit m x e n = ap (λ (b : Bool). ltb m x && b) (ne_eqb x e n) ∙ none (ltb m x)
  where
    none : (b : Bool) → (b && false) ≡ false
    none true = refl
    none false = refl

without-digit : (m x e : ℕ) → m < x → x ≡ e → (ltb m x && eqb x e) ≡ true
without-digit m x e h n = ap (λ (b : Bool). b && eqb x e) (lt-ltb m x h) ∙ eq-eqb x e n

-- no e stands past the digits: the number ends there
pub record Plain (text : List ℕ) (m : ℕ) : Type 0 where
  pub x-is : m ≡ past_mark_of text m
  pub e-is : m ≡ past_digits_of text m
  pub fine : (ltb m m && eqb m m) ≡ false

pub plain_at : {text : List ℕ} (from : ℕ) {m : ℕ} → m ≡ past_digits_of text from → among (get_or text m 0) exponent_marks ≡ false → Plain text m
plain_at {text} from {m} e n =
    record {
      x-is = mark-none text m n;
      e-is = e ∙ sym (all-again digits text from) ∙ ap (past_digits_of text) (sym e);
      fine = no-mark m;
    }

-- an e stands there: then the sign and the exponent's digits
pub record Marked (text : List ℕ) (m x : ℕ) (r : Power) : Type 0 where
  pub x-is : x ≡ past_mark_of text m
  pub e-is : r.at ≡ past_digits_of text x
  pub size_is : r.size ≡ capped (val (digits_in text x r.at))
  pub ahead : m < x
  pub none : x ≡ r.at → (ltb m x && eqb x r.at) ≡ true
  pub fine : (x ≡ r.at → ⊥) → (ltb m x && eqb x r.at) ≡ false

pub marked-at : {text : List ℕ} {m x : ℕ} {r : Power} → among (get_or text m 0) exponent_marks ≡ true → x ≡ past_sign_of text (m + 1) → r ≡ exponent_of text x → Marked text m x r
unfolding exponent_of
marked-at {text} {m} {x} {r} is sign e =
    let at-is = ap (λ (z : Power). z.at) e in
    let past = one-onward signs text (m + 1) in
    let ahead : m < x = subst (λ (z : ℕ). m < z) (sym sign) (omega arith) in
    record {
      x-is = sign ∙ mark-taken text m (mark-inside text m is) is;
      e-is = at-is;
      size_is = ap (λ (z : Power). z.size) e ∙ ap (λ (z : ℕ). capped (val (digits_in text x z))) (sym at-is);
      ahead = ahead;
      none = λ n. without-digit m x r.at ahead n;
      fine = λ n. with-digit m x r.at n;
    }

-- ---- what a value is asked for

module _ {text : List ℕ} (at : ℕ) {whole fraction : ℕ} {first all : Leading}
    (w-is : whole ≡ past_sign_of text at) (before : Gathers text whole 0 0 first) (f-is : fraction ≡ past_point_of text first.at) (after : Gathers text fraction first.w first.dropped all)
    (some : (eqb whole first.at && eqb fraction all.at) ≡ false) where
  pub held_plain : (end : Plain text all.at) → Held text (p at w-is before f-is after some end.x-is end.e-is) all.w all.dropped 0 0
  held_plain end =
      let q = p at w-is before f-is after some end.x-is end.e-is in
      held at w-is before f-is after some end.x-is end.e-is end.fine 0 0
      (rise-rising text q 0 (no_power text q refl) (no-falls text q refl)) (fall-rising text q 0 (no_power text q refl) (no-falls text q refl))

  module _ {x : ℕ} {r : Power} (end : Marked text all.at x r) (digit : x ≡ r.at → ⊥) where
    abbrev q : Places
    q = p at w-is before f-is after some end.x-is end.e-is

    pub held-falling : eqb (get_or text (all.at + 1) 0) minus ≡ true → Held text q all.w all.dropped 0 r.size
    held-falling e =
        let sign = falls-is text q true end.ahead e in
        held at w-is before f-is after some end.x-is end.e-is (end.fine digit) 0 r.size
        (rise-falling text q r.size end.size_is sign) (fall-falling text q r.size end.size_is sign)

    pub held-rising : eqb (get_or text (all.at + 1) 0) minus ≡ false → Held text q all.w all.dropped r.size 0
    held-rising e =
        let sign = falls-is text q false end.ahead e in
        held at w-is before f-is after some end.x-is end.e-is (end.fine digit) r.size 0
        (rise-rising text q r.size end.size_is sign) (fall-rising text q r.size end.size_is sign)

-- ---- what is found, by its case

module _ {text : List ℕ} {at : ℕ} {r : Result Parts Refusal} (finds : Finds text at r) where
  pub found_number : {q : Parts} → r ≡ Ok q → (Ok q.places ≡ scan_number_of text at) × Held text q.places q.w q.dropped q.rise q.fall
  found_number e = subst (λ (z : Result Parts Refusal). SaysFound z text at) e finds.said

  pub found_nothing : {refusal : Refusal} → r ≡ Err refusal → Err refusal ≡ number_of text at
  found_nothing e = subst (λ (z : Result Parts Refusal). SaysFound z text at) e finds.said

pub number-value : (text : List ℕ) (at : ℕ) (p : Places) (v : Float) → Ok p ≡ scan_number_of text at → v ≡ value_of text p → Ok (read_at v p.end) ≡ number_of text at
number-value text at p v s e = ap (λ (z : Float). Ok (read_at z p.end)) e ∙ read_is text at (Ok p) s
