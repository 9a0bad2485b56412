-- What may stand where a number ends in a derivation, from right to left: no e, since nothing there begins with one, and no point without a digit
-- behind it. So the permissive reader's number ends there too. And its separators end where a separator of the grammar does. Assumes nothing.
use Prim.Native.Nat.{ℕ, ◌+◌, ◌≤◌}
use mathlib.Core.Path.{◌≡◌, refl, sym, subst, ◌∙◌, ap}
use mathlib.Core.Bool.{Bool, true, false}
use mathlib.Core.List.{List}
use mathlib.Core.Logic.{inl, inr, ⊎_elim}
use native.Mathlib.Omega.{arith}
use lib.Dec.{T, ltb}
use borrow.Author.Tests.{ltb-false}
use lib.ListN.{length}
use Rattle.scan.specs.Bytes.{among, digits, signs, points, exponent_marks, commas, separators, flags, number_starts}
use Rattle.scan.specs.Runs.{stands, past_digits_of, past_separators_of}
use Rattle.scan.specs.Numbers.{whole_of, point_of, fraction_of, mark_of, exponent_of, end_of, places_of, no_digit, no_exponent_digit, scan_number_of}
use Rattle.std.specs.Prelude.{Ok}
use Rattle.scan.proofs.ByteLaws.{apartb, withinb, clash, either_way}
use Rattle.scan.proofs.RunLaws.{stands-past, stands-within, one-step, all-stands, all-stopped, all-again}
use Rattle.scan.proofs.NumberLaws.{mark-none, mark-onward, digit-in-all, exponent-in-none}
use Rattle.strict_grammar.specs.Spans.{Byte, opt, star, none, more}
use Rattle.strict_grammar.specs.Grammar.{white_of, wsp, number, comma-wsp, coordinate-pair, elliptical-arc-argument, gap}
use Rattle.strict_grammar.specs.Words.{number_end}
use Rattle.strict_grammar.specs.declared.Edition.{Edition}
use Rattle.strict_grammar.specs.declared.Edition.TheVariants.{Svg11, Svg2}
use Rattle.strict_grammar.proofs.SpanLaws.{standing, not-both, other, wider, snoc, joined, run-same, run-found}
use Rattle.strict_grammar.proofs.Numbers.{number-starts, number-only, number-lacks, ends-bare, ends-whole, ends-fraction, ends-point, nonnegative-is}
use Rattle.strict_argument.specs.Reading.{argument_of}
use Rattle.strict_argument.specs.declared.groups.Kind.{Kind}
use Rattle.strict_argument.specs.declared.groups.Kind.TheVariants.{Coordinate, Pair, TwoPairs, ThreePairs, Arc}
use Rattle.strict.specs.Commands.{command_letters, Item}
use Rattle.strict.proofs.CommandLaws.{command-letter}
use Rattle.strict.proofs.Rests.{Rest, ended, goes_on, gap-white}

-- ---- white space of either edition, by its bytes

white-mark : (edition : Edition) → T (apartb (white_of edition) exponent_marks)
unfolding among
white-mark Svg11 = tt
white-mark Svg2 = tt

white-point : (edition : Edition) → T (apartb (white_of edition) points)
unfolding among
white-point Svg11 = tt
white-point Svg2 = tt

white-separates : (edition : Edition) → T (withinb (white_of edition) separators)
unfolding among
white-separates Svg11 = tt
white-separates Svg2 = tt

-- ---- what follows a number

module _ (text : List ℕ) where
  pub record Follows (y : ℕ) : Type 0 where
    pub no-mark : stands text y exponent_marks ≡ false
    pub no-bare-point : stands text y points ≡ true → stands text (y + 1) digits ≡ true

  follows-class : (class : List ℕ) → T (apartb class exponent_marks) → T (apartb class points) → (y : ℕ) → stands text y class ≡ true → Follows y
  follows-class class a b y h =
      record {
        no-mark = other {l = class} exponent_marks a (standing class y h);
        no-bare-point = λ p. absurd (not-both b (standing class y h) (standing points y p));
      }

  follows-end : (y : ℕ) → length text ≤ y → Follows y
  follows-end y past =
      record {
        no-mark = stands-past exponent_marks text y past;
        no-bare-point = λ p. absurd (let h = stands-within points text y p in omega arith);
      }

  pub follows-flag : (y : ℕ) → stands text y flags ≡ true → Follows y
  unfolding among
  follows-flag y h = follows-class flags tt tt y h

  follows-letter : (y : ℕ) → stands text y command_letters ≡ true → Follows y
  unfolding among
  follows-letter y h = follows-class command_letters tt tt y h

-- where the digits of a number end and none stand behind a point, no point stands there
no-point : (text : List ℕ) (i : ℕ) → mark_of text i ≤ fraction_of text i → Follows text (point_of text i) → point_of text i ≡ mark_of text i
unfolding fraction_of mark_of
no-point text i h f = ⊎_elim there missing (either_way (stands text (point_of text i) points))
  where
    there : stands text (point_of text i) points ≡ true → point_of text i ≡ mark_of text i
    there p =
        let e = (one-step points text (point_of text i)).0 p in
        let m : point_of text i + 1 ≡ mark_of text i = omega (arith, e, mark-onward text i) in
        absurd (clash (subst (λ (y : ℕ). stands text y digits ≡ true) m (f.no-bare-point p)) (all-stopped digits text (fraction_of text i)))

    missing : stands text (point_of text i) points ≡ false → point_of text i ≡ mark_of text i
    missing p = let e = (one-step points text (point_of text i)).1 p in omega (arith, e, mark-onward text i)

module _ (edition : Edition) (text : List ℕ) where
  some-digit : (i j : ℕ) → number edition text i j → no_digit text i ≡ false
  some-digit i j n = ⊎_elim (λ h. absurd (number-lacks edition text i h j n)) (λ h. h) (either_way (no_digit text i))

  -- a number that starts with a point has a digit behind it
  module _ (i j : ℕ) (n : number edition text i j) (p : stands text i points ≡ true) where
    no_sign : whole_of text i ≡ i
    unfolding whole_of among
    no_sign = (one-step signs text i).1 (other {l = points} signs tt (standing points i p))

    no-digits : point_of text i ≡ i
    unfolding point_of among
    no-digits =
        ap (past_digits_of text) no_sign ∙ sym (run-same (run-found digits text i) (none refl) (other {l = points} digits tt (standing points i p)))

    past-point : fraction_of text i ≡ i + 1
    unfolding fraction_of
    past-point = (one-step points text (point_of text i)).0 (subst (λ (y : ℕ). stands text y points ≡ true) (sym no-digits) p) ∙ ap (λ (y : ℕ). y + 1) no-digits

    digit-behind : stands text (i + 1) digits ≡ true
    unfolding mark_of
    digit-behind =
        all-stands digits text (fraction_of text i) (i + 1) (omega (arith, past-point))
        (omega (arith, digit-in-all text i (some-digit i j n), no_sign, no-digits, past-point))

  pub follows-number : (i j : ℕ) → number edition text i j → Follows text i
  unfolding among
  follows-number i j n =
      record {
        no-mark = other {l = number_starts} exponent_marks tt (standing number_starts i (number-starts edition text i j n));
        no-bare-point = digit-behind i j n;
      }

  follows-argument : (kind : Kind) (i j : ℕ) → argument_of edition text kind i j → Follows text i
  unfolding coordinate-pair elliptical-arc-argument
  follows-argument Coordinate i j n = follows-number i j n
  follows-argument Pair i j (k, n, w) = follows-number i k n
  follows-argument TwoPairs i j (_, (k, n, w), _) = follows-number i k n
  follows-argument ThreePairs i j (_, (k, n, w), _) = follows-number i k n
  follows-argument Arc i j (k, n, w) = follows-number i k (nonnegative-is edition text i k n)

  follows-space : (i j : ℕ) → wsp edition text i j → Follows text i
  follows-space i j b = follows-class text (white_of edition) (white-mark edition) (white-point edition) i b.there

  pub follows-separator : (i m : ℕ) → opt (comma-wsp edition text) i m → Follows text m → Follows text i
  unfolding comma-wsp among
  follows-separator i m (inl (inl (_, p, _))) f = follows-space i p.0 p.1
  follows-separator i m (inl (inr (_, b, _))) f = follows-class text commas tt tt i b.there
  follows-separator i m (inr z) f = subst (Follows text) (sym z) f

  follows-white : {i m : ℕ} → star (wsp edition text) i m → Follows text m → Follows text i
  follows-white (none z) f = subst (Follows text) (sym z) f
  follows-white {i} (more {k = k} b w) f = follows-space i k b

  pub follows-rest : {alone begun : Bool} {k : ℕ} → Rest edition text alone begun k → Follows text k
  follows-rest {k = k} (ended z) = follows-end text k (omega arith)
  follows-rest (goes_on {begun = begun} {i = k} j _ c w r) = follows-letter text k (command-letter edition text begun k j c)

  -- after a command: what is between it and the next one, and that
  pub follows-command : {alone begun : Bool} (j k : ℕ) → gap edition text j k → Rest edition text alone begun k → Follows text j
  follows-command j k w r = follows-white (gap-white edition text j k w) (follows-rest r)

  pub follows-items : (kind : Kind) {i j : ℕ} → star (Item edition text kind) i j → Follows text j → Follows text i
  follows-items kind (none z) f = subst (Follows text) (sym z) f
  follows-items kind {i} (more {k = k} (m, o, a) w) f = follows-separator i m o (follows-argument kind m k a)

  -- ---- a number of the grammar is one of the reader's

  -- without an e it ends where its digits do
  no-exponent : (i : ℕ) → stands text (mark_of text i) exponent_marks ≡ false → (no_exponent_digit text i ≡ false) × (end_of text i ≡ mark_of text i)
  unfolding mark_of exponent_of end_of
  no-exponent i h =
      let e : exponent_of text i ≡ mark_of text i = mark-none text (mark_of text i) h in (
        ⊎_elim (λ b. absurd (omega (arith, (exponent-in-none text i b).0, e))) (λ b. b) (either_way (no_exponent_digit text i)),
        ap (past_digits_of text) e ∙ all-again digits text (fraction_of text i),
      )

  abbrev Whole : ℕ → ℕ → Type 0
  Whole i j = (no_exponent_digit text i ≡ false) × (end_of text i ≡ j)

  at_mark : (i j : ℕ) → j ≡ mark_of text i → Follows text j → Whole i j
  at_mark i j e f =
      let w = no-exponent i (subst (λ (y : ℕ). stands text y exponent_marks ≡ false) e f.no-mark) in
      (w.0, w.1 ∙ sym e)

  -- the longest number of SVG 1.1 that no e follows
  whole-11 : (i j : ℕ) → number Svg11 text i j → no_digit text i ≡ false → Follows text j → Whole i j
  whole-11 i j n some f = ⊎_elim bare whole (either_way (no_exponent_digit text i))
    where
      ends_at : j ≡ number_end Svg11 text i
      ends_at = (number-only Svg11 text i some).1 j n

      bare : no_exponent_digit text i ≡ true → Whole i j
      bare h = at_mark i j (ends_at ∙ ends-bare text i h) f

      whole : no_exponent_digit text i ≡ false → Whole i j
      whole h = (h, sym (ends_at ∙ ends-whole text i h))

  -- that of SVG 2, behind which no point is left
  whole-2 : (i j : ℕ) → number Svg2 text i j → no_digit text i ≡ false → Follows text j → Whole i j
  whole-2 i j n some f = ⊎_elim fraction point (either_way (ltb (fraction_of text i) (mark_of text i)))
    where
      ends_at : j ≡ number_end Svg2 text i
      ends_at = (number-only Svg2 text i some).1 j n

      fraction : ltb (fraction_of text i) (mark_of text i) ≡ true → Whole i j
      fraction h = at_mark i j (ends_at ∙ ends-fraction text i h) f

      point : ltb (fraction_of text i) (mark_of text i) ≡ false → Whole i j
      point h = at_mark i j (z ∙ no-point text i (ltb-false (fraction_of text i) (mark_of text i) h) (subst (Follows text) z f)) f
        where
          z : j ≡ point_of text i
          z = ends_at ∙ ends-point text i h

  whole-number : (i j : ℕ) → number edition text i j → no_digit text i ≡ false → Follows text j → Whole i j
  whole-number i j n some f = go edition n
    where
      go : (edition : Edition) → number edition text i j → Whole i j
      go Svg11 n = whole-11 i j n some f
      go Svg2 n = whole-2 i j n some f

  pub scanned : (i j : ℕ) → number edition text i j → Follows text j → (scan_number_of text i ≡ Ok (places_of text i)) × (end_of text i ≡ j)
  unfolding scan_number_of
  scanned i j n f =
      let some = some-digit i j n in
      let w = whole-number i j n some f in
      (rw (some, w.0) refl, w.1)

  -- ---- separators

  separated : {i j : ℕ} → star (wsp edition text) i j → star (Byte text separators) i j
  separated (none z) = none z
  separated (more b w) = more (wider {l = white_of edition} {m = separators} (white-separates edition) b) (separated w)

  comma-separates : {i j : ℕ} → Byte text commas i j → Byte text separators i j
  unfolding among
  comma-separates b = wider {l = commas} {m = separators} tt b

  run-to : (i m : ℕ) → star (Byte text separators) i m → stands text m separators ≡ false → past_separators_of text i ≡ m
  run-to i m w h = sym (run-same (run-found separators text i) w h)

  pub past-separator : (i m : ℕ) → opt (comma-wsp edition text) i m → stands text m separators ≡ false → past_separators_of text i ≡ m
  unfolding comma-wsp
  past-separator i m (inl (inl (k, p, (n, inl b, w)))) h = run-to i m (joined (snoc (separated (more p.1 p.2)) (comma-separates b)) (separated w)) h
  past-separator i m (inl (inl (k, p, (n, inr z, w)))) h =
      run-to i m (joined (separated (more p.1 p.2)) (subst (λ (y : ℕ). star (Byte text separators) y m) (sym z) (separated w))) h
  past-separator i m (inl (inr (k, b, w))) h = run-to i m (more (comma-separates b) (separated w)) h
  past-separator i m (inr z) h = run-to i m (none z) h

  pub past-white : (i m : ℕ) → star (wsp edition text) i m → stands text m separators ≡ false → past_separators_of text i ≡ m
  past-white i m w h = run-to i m (separated w) h
