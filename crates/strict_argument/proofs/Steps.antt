-- A reader of a word, a separator or none, and the rest, from readers of the two; and that an answer is settled. Assumes nothing.
use Prim.Native.Nat.{ℕ, ◌+◌, ◌≤◌, ◌<◌}
use mathlib.Core.Path.{◌≡◌, refl, sym, subst, ◌∙◌, ap}
use mathlib.Core.Bool.{true, false}
use mathlib.Core.List.{List}
use mathlib.Core.Logic.{◌⊎◌, inl, inr, ⊎_elim}
use native.Mathlib.Omega.{arith}
use lib.Dec.{ltb}
use borrow.Author.Tests.{ltb-true, ltb-false, lt-ltb, le-ltb}
use lib.ListN.{length, get_or-eq_default}
use Rattle.scan.specs.Bytes.{among, signs, flags, number_starts}
use Rattle.scan.specs.Runs.{stands, byte_at_of, past_digits_of, past_sign_of, past_point_of}
use Rattle.scan.specs.Numbers.{places_of, whole_of, point_of, fraction_of, mark_of, no_digit, scan_number_of}
use Rattle.scan.specs.declared.numbers.Places.{Places}
use Rattle.std.specs.Prelude.{Option, Some, None, Ok, Err}
use Rattle.scan.specs.declared.numbers.NumberError.TheVariants.{NoDigit, NoExponentDigit}
use Rattle.scan.proofs.NumberLaws.{scanned-places, scanned-flags, bare-flags, none-flags, digit-in-all, digit-in-none}
use Rattle.scan.proofs.ByteLaws.{clash, either_way}
use Rattle.scan.proofs.RunLaws.{stands-inside, stands-past}
use Rattle.strict_grammar.specs.Spans.{Span, Byte, ◌·◌, opt}
use Rattle.strict_grammar.specs.Grammar.{nonnegative-number, number, rotation, flag, comma-wsp}
use Rattle.strict_grammar.specs.Words.{Only, number_end, past_separator_of}
use Rattle.strict_grammar.specs.declared.Edition.{Edition}
use Rattle.strict_grammar.specs.declared.Edition.TheVariants.{Svg11, Svg2}
use Rattle.strict_grammar.proofs.SpanLaws.{standing, not_byte}
use Rattle.strict_grammar.proofs.Numbers.{number-only, number-lacks, ends-whole, ends-bare, ends-fraction, ends-point, nonnegative-no-sign, nonnegative-is, nonnegative-of}
use Rattle.strict_grammar.proofs.Separators.{separator-past, separator-forced}
use Rattle.strict_grammar.proofs.Theorems.{flag-separated}
use Rattle.strict_argument.specs.Reading.{Reads}

-- every word of P starts as a number does
abbrev pub Starts : List ℕ → Span → Type 0
Starts text P = (i j : ℕ) → P i j → stands text i number_starts ≡ true

-- any two right answers are equal
pub reads-settled : (P : Span) (i : ℕ) (r s : Option ℕ) → Reads P i r → Reads P i s → r ≡ s
reads-settled P i (Some r) (Some s) p q = ap Some (q.1 r p.0)
reads-settled P i (Some r) None p q = absurd (q r p.0)
reads-settled P i None (Some s) p q = absurd (p s q.0)
reads-settled P i None None p q = refl

-- an answer is right for another production with the same words
pub reads_same : (P Q : Span) (i : ℕ) (r : Option ℕ) → ((q : ℕ) → P i q → Q i q) → ((q : ℕ) → Q i q → P i q) → Reads P i r → Reads Q i r
reads_same P Q i (Some r) to of p = (to r p.0, λ q w. p.1 q (of q w))
reads_same P Q i None to of p = λ q w. p q (of q w)

-- ---- the first word and the rest

module _ (edition : Edition) (text : List ℕ) (P Q : Span) (starts : Starts text Q) where
  -- P comma-wsp? Q: the separator before Q is the one that was found
  pub step : (i j k : ℕ) (r : Option ℕ) → Only P i j → k ≡ past_separator_of edition text j → Reads Q k r → Reads (P · opt (comma-wsp edition text) · Q) i r
  step i j k r p s rest = go r rest
    where
      to-k : (n : ℕ) → (P · opt (comma-wsp edition text) · Q) i n → Q k n
      to-k n (x, a, (y, c, d)) =
          let c' = subst (λ (z : ℕ). opt (comma-wsp edition text) z y) (p.1 x a) c in
          subst (λ (z : ℕ). Q z n) (separator-forced edition text j y c' (starts y n d) ∙ sym s) d

      go : (r : Option ℕ) → Reads Q k r → Reads (P · opt (comma-wsp edition text) · Q) i r
      go (Some n) q =
          ((j, p.0, (k, subst (λ (z : ℕ). opt (comma-wsp edition text) j z) (sym s) (separator-past edition text j).0, q.0)), λ m v. q.1 m (to-k m v))
      go None q = λ n v. q n (to-k n v)

-- where a flag follows a rotation, a separator that may stand between them does
pub must-separate :
    (edition : Edition) (text : List ℕ) (Q : Span) (i : ℕ) (r : Option ℕ) → Reads (rotation edition text · opt (comma-wsp edition text) · flag edition text · Q) i r
    → Reads (rotation edition text · comma-wsp edition text · flag edition text · Q) i r
must-separate edition text Q i r w =
    reads_same (rotation edition text · opt (comma-wsp edition text) · flag edition text · Q) (rotation edition text · comma-wsp edition text · flag edition text · Q) i r
    (λ q v. flag-separated edition text Q i q v) (λ q v. (v.0, v.1, (v.2.0, inl v.2.1, v.2.2))) w

-- ---- numbers, radii and flags

module _ (text : List ℕ) (at : ℕ) where
  some-digit : (whole_of text at < point_of text at) ⊎ (fraction_of text at < mark_of text at) → no_digit text at ≡ false
  some-digit h = ⊎_elim (λ n. absurd (none h (digit-in-none text at n))) (λ n. n) (either_way (no_digit text at))
    where
      none : (whole_of text at < point_of text at) ⊎ (fraction_of text at < mark_of text at) → (whole_of text at ≡ point_of text at) × (fraction_of text at ≡ mark_of text at) → ⊥
      none (inl l) e = omega (arith, e.0)
      none (inr l) e = omega (arith, e.1)

module _ (text : List ℕ) (at : ℕ) where
  pub scanned-reads : (p : Places) → scan_number_of text at ≡ Ok p → Reads (number Svg11 text) at (Some p.end)
  unfolding places_of
  scanned-reads p e =
      let f = scanned-flags text at p e in
      let g : number_end Svg11 text at ≡ p.end = ends-whole text at f.1 ∙ sym (ap (λ (q : Places). q.end) (scanned-places text at p e)) in
      subst (λ (y : ℕ). Only (number Svg11 text) at y) g (number-only Svg11 text at f.0)

  pub bare-reads : (m : ℕ) → scan_number_of text at ≡ Err (NoExponentDigit m) → Reads (number Svg11 text) at (Some m)
  bare-reads m e =
      let f = bare-flags text at m e in
      subst (λ (y : ℕ). Only (number Svg11 text) at y) (ends-bare text at f.1 ∙ sym f.2) (number-only Svg11 text at f.0)

  pub none_reads : (i : ℕ) → scan_number_of text at ≡ Err (NoDigit i) → Reads (number Svg11 text) at None
  none_reads i e = number-lacks Svg11 text at (none-flags text at i e).0

  -- SVG 2: digits after a point, digits alone, neither
  fraction-reads : fraction_of text at < mark_of text at → Reads (number Svg2 text) at (Some (mark_of text at))
  fraction-reads h =
      let some = some-digit text at (inr h) in
      subst (λ (y : ℕ). Only (number Svg2 text) at y) (ends-fraction text at (lt-ltb (fraction_of text at) (mark_of text at) h)) (number-only Svg2 text at some)

  whole-reads : mark_of text at ≤ fraction_of text at → whole_of text at < point_of text at → Reads (number Svg2 text) at (Some (point_of text at))
  whole-reads h g =
      let some = some-digit text at (inl g) in
      subst (λ (y : ℕ). Only (number Svg2 text) at y) (ends-point text at (le-ltb (fraction_of text at) (mark_of text at) h)) (number-only Svg2 text at some)

  neither-reads : mark_of text at ≤ fraction_of text at → point_of text at ≤ whole_of text at → Reads (number Svg2 text) at None
  neither-reads h g =
      number-lacks Svg2 text at (⊎_elim (λ n. n) (λ n. absurd (omega (arith, digit-in-all text at n))) (either_way (no_digit text at)))

  -- the places as the code finds them
  module _
      {whole point fraction mark : ℕ} (w : whole ≡ past_sign_of text at) (p : point ≡ past_digits_of text whole) (f : fraction ≡ past_point_of text point)
      (m : mark ≡ past_digits_of text fraction)
    where
      the-whole : whole ≡ whole_of text at
      unfolding whole_of
      the-whole = w

      the-point : point ≡ point_of text at
      unfolding point_of
      the-point = p ∙ ap (past_digits_of text) the-whole

      the-fraction : fraction ≡ fraction_of text at
      unfolding fraction_of
      the-fraction = f ∙ ap (past_point_of text) the-point

      the-mark : mark ≡ mark_of text at
      unfolding mark_of
      the-mark = m ∙ ap (past_digits_of text) the-fraction

      pub fraction-found : fraction < mark → Reads (number Svg2 text) at (Some mark)
      fraction-found h = subst (λ (n : ℕ). Only (number Svg2 text) at n) (sym the-mark) (fraction-reads (omega (arith, the-fraction, the-mark)))

      pub whole-found : mark ≤ fraction → whole < point → Reads (number Svg2 text) at (Some point)
      whole-found h g =
          subst (λ (n : ℕ). Only (number Svg2 text) at n) (sym the-point) (whole-reads (omega (arith, the-fraction, the-mark)) (omega (arith, the-whole, the-point)))

      pub neither-found : mark ≤ fraction → point ≤ whole → Reads (number Svg2 text) at None
      neither-found h g = neither-reads (omega (arith, the-fraction, the-mark)) (omega (arith, the-whole, the-point))

  -- past the text the byte is 0, which is no sign
  sign-stands : stands text at signs ≡ among (byte_at_of text at) signs
  unfolding among
  sign-stands =
      ⊎_elim (λ h. stands-inside signs text at (ltb-true at (length text) h)) (λ h. past (ltb-false at (length text) h)) (either_way (ltb at (length text)))
    where
      past : length text ≤ at → stands text at signs ≡ among (byte_at_of text at) signs
      past h = stands-past signs text at h ∙ sym (ap (λ (b : ℕ). among b signs) (get_or-eq_default text 0 h))

  -- no radius starts with a sign
  pub radius-left : (edition : Edition) → among (byte_at_of text at) signs ≡ true → Reads (nonnegative-number edition text) at None
  radius-left edition h = λ q n. clash (sign-stands ∙ h) (nonnegative-no-sign edition text at q n)

  -- without one it is the number
  pub radius-taken : (edition : Edition) (r : Option ℕ) → among (byte_at_of text at) signs ≡ false → Reads (number edition text) at r → Reads (nonnegative-number edition text) at r
  radius-taken edition r h w =
      reads_same (number edition text) (nonnegative-number edition text) at r (λ q n. nonnegative-of edition text at q (sign-stands ∙ h) n) (λ q n. nonnegative-is edition text at q n) w

  pub flag-taken : stands text at flags ≡ true → Reads (Byte text flags) at (Some (at + 1))
  flag-taken h = (standing flags at h, λ q f. f.next)

  pub flag-left : stands text at flags ≡ false → Reads (Byte text flags) at None
  flag-left h = λ q f. not_byte h f
