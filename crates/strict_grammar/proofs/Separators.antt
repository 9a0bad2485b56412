-- A separator, `comma-wsp?`, and the place past it that crate `scan` finds: another separator from the same place ends before a comma or white space,
-- so before what starts as a number does the separator is the one that was found. Assumes nothing.
use Prim.Native.Nat.{ℕ, ◌+◌, ◌≤◌, ◌<◌}
use mathlib.Core.Path.{◌≡◌, refl, sym, subst, ◌∙◌, ap}
use mathlib.Core.Bool.{Bool, true, false}
use mathlib.Core.List.{List, [], ◌∷◌}
use mathlib.Core.Logic.{◌⊎◌, inl, inr, ⊎_elim}
use native.Mathlib.Omega.{arith}
use lib.Dec.{T}
use lib.ListN.{length}
use Rattle.scan.specs.Bytes.{among, commas, number_starts}
use Rattle.scan.specs.Runs.{stands, past_one, past_all, past_comma_of}
use Rattle.scan.proofs.ByteLaws.{apartb, withinb, clash, either_way}
use Rattle.scan.proofs.RunLaws.{one-step, one_end, all_end, all-again}
use Rattle.strict_grammar.specs.Spans.{Span, Byte, ◌·◌, ◌∥◌, opt, star, none, more, plus, longest}
use Rattle.strict_grammar.specs.Grammar.{white_of, wsp, comma, comma-wsp}
use Rattle.strict_grammar.specs.Words.{Past, past_white_in, past_separator_of}
use Rattle.strict_grammar.specs.declared.Edition.{Edition}
use Rattle.strict_grammar.specs.declared.Edition.TheVariants.{Svg11, Svg2}
use Rattle.strict_grammar.proofs.SpanLaws.{standing, not_byte, not-both, other, wider, joined, star-le, plus-lt, plus-star, star-or, run-same, run-found}

-- the bytes that a separator is made of
abbrev pub comma_white : Edition → List ℕ
comma_white edition = 44 ∷ white_of edition

-- white space is made of none of the bytes that numbers start with, and a comma is none of it
white-within : (edition : Edition) → T (withinb (white_of edition) (comma_white edition))
unfolding among
white-within Svg11 = tt
white-within Svg2 = tt

comma-within : (edition : Edition) → T (withinb commas (comma_white edition))
unfolding among
comma-within Svg11 = tt
comma-within Svg2 = tt

pub comma-apart : (edition : Edition) → T (apartb commas (white_of edition))
unfolding among
comma-apart Svg11 = tt
comma-apart Svg2 = tt

pub number-apart : (edition : Edition) → T (apartb number_starts (white_of edition))
unfolding among
number-apart Svg11 = tt
number-apart Svg2 = tt

separator-apart : (edition : Edition) → T (apartb (comma_white edition) number_starts)
unfolding among
separator-apart Svg11 = tt
separator-apart Svg2 = tt

module _ (edition : Edition) (text : List ℕ) where
  -- a comma or white space stands at q
  abbrev pub Separates : ℕ → Type 0
  Separates q = stands text q (comma_white edition) ≡ true

  white-separates : {q k : ℕ} → wsp edition text q k → Separates q
  white-separates b = (wider {l = white_of edition} {m = comma_white edition} (white-within edition) b).there

  comma-separates : {q k : ℕ} → comma edition text q k → Separates q
  comma-separates b = (wider {l = commas} {m = comma_white edition} (comma-within edition) b).there

  comma-not-white : {q k : ℕ} → comma edition text q k → stands text q (white_of edition) ≡ false
  comma-not-white b = other {l = commas} (white_of edition) (comma-apart edition) b

  -- white space ends where the run does, or before more of it
  white-past : {i j q : ℕ} → longest (star (wsp edition text)) i j → star (wsp edition text) i q → (q ≡ j) ⊎ Separates q
  white-past {i} {j} {q} r w =
      ⊎_elim (λ h. inr (white-separates (standing (white_of edition) q h))) (λ h. inl (run-same r w h)) (either_way (stands text q (white_of edition)))

  -- the white space from i ends at j
  module _ (i j : ℕ) (r : longest (star (wsp edition text)) i j) where
    comma-at : {m n : ℕ} → star (wsp edition text) i m → comma edition text m n → m ≡ j
    comma-at w b = run-same r w (comma-not-white b)

    no-comma : stands text j commas ≡ false → {m n : ℕ} → star (wsp edition text) i m → comma edition text m n → ⊥
    no-comma h w b = clash (subst (λ (y : ℕ). stands text y commas ≡ true) (comma-at w b) b.there) h

    separator-left : stands text j commas ≡ false → Past (opt (comma-wsp edition text)) Separates i j
    unfolding comma-wsp
    separator-left h = (⊎_elim (λ z. inr z) (λ p. inl (inl (j, p, (j, inr refl, none refl)))) (star-or r.0), λ q o. go q o)
      where
        go : (q : ℕ) → opt (comma-wsp edition text) i q → (q ≡ j) ⊎ Separates q
        go q (inr z) = white-past r (none z)
        go q (inl (inl (m, p, (n, inl b, w)))) = absurd (no-comma h (plus-star p) b)
        go q (inl (inl (m, p, (n, inr z, w)))) = white-past r (joined (plus-star p) (subst (λ (y : ℕ). star (wsp edition text) y q) (sym z) w))
        go q (inl (inr (m, b, w))) = absurd (no-comma h (none refl) b)

    module _ (k : ℕ) (h : stands text j commas ≡ true) (t : longest (star (wsp edition text)) (j + 1) k) where
      the-comma : comma edition text j (j + 1)
      the-comma = standing commas j h

      at-comma : {q : ℕ} → (q ≡ j) ⊎ Separates q → (q ≡ k) ⊎ Separates q
      at-comma (inl z) = inr (subst (λ (y : ℕ). Separates y) (sym z) (comma-separates the-comma))
      at-comma (inr g) = inr g

      after-comma : {m n q : ℕ} → star (wsp edition text) i m → comma edition text m n → star (wsp edition text) n q → (q ≡ k) ⊎ Separates q
      after-comma {m} {n} {q} w b u =
          white-past t (subst (λ (y : ℕ). star (wsp edition text) y q) (b.next ∙ ap (λ (y : ℕ). y + 1) (comma-at w b)) u)

      separator-taken : Past (opt (comma-wsp edition text)) Separates i k
      unfolding comma-wsp
      separator-taken = (inl (⊎_elim bare spaced (star-or r.0)), λ q o. go q o)
        where
          bare : i ≡ j → (plus (wsp edition text) · opt (comma edition text) · star (wsp edition text) ∥ comma edition text · star (wsp edition text)) i k
          bare z = inr (j + 1, subst (λ (y : ℕ). comma edition text y (j + 1)) (sym z) the-comma, t.0)

          spaced : plus (wsp edition text) i j → (plus (wsp edition text) · opt (comma edition text) · star (wsp edition text) ∥ comma edition text · star (wsp edition text)) i k
          spaced p = inl (j, p, (j + 1, inl the-comma, t.0))

          go : (q : ℕ) → opt (comma-wsp edition text) i q → (q ≡ k) ⊎ Separates q
          go q (inr z) = at-comma (white-past r (none z))
          go q (inl (inl (m, p, (n, inl b, w)))) = after-comma (plus-star p) b w
          go q (inl (inl (m, p, (n, inr z, w)))) = at-comma (white-past r (joined (plus-star p) (subst (λ (y : ℕ). star (wsp edition text) y q) (sym z) w)))
          go q (inl (inr (m, b, w))) = after-comma (none refl) b w

  -- the separator that `scan`'s places find
  pub separator-past : (i : ℕ) → Past (opt (comma-wsp edition text)) Separates i (past_separator_of edition text i)
  unfolding past_separator_of
  separator-past i = ⊎_elim taken left (either_way (stands text (past_white_in edition text i) commas))
    where
      taken : stands text (past_white_in edition text i) commas ≡ true → Past (opt (comma-wsp edition text)) Separates i (past_white_in edition text (past_comma_of text (past_white_in edition text i)))
      taken h =
          let e = (one-step commas text (past_white_in edition text i)).0 h in
          separator-taken i (past_white_in edition text i) (run-found (white_of edition) text i) _ h
          (subst (λ (y : ℕ). longest (star (wsp edition text)) y (past_white_in edition text (past_comma_of text (past_white_in edition text i)))) e (run-found (white_of edition) text (past_comma_of text (past_white_in edition text i))))

      left : stands text (past_white_in edition text i) commas ≡ false → Past (opt (comma-wsp edition text)) Separates i (past_white_in edition text (past_comma_of text (past_white_in edition text i)))
      left h =
          let e = ap (past_white_in edition text) ((one-step commas text (past_white_in edition text i)).1 h) ∙ all-again (white_of edition) text i in
          subst (λ (y : ℕ). Past (opt (comma-wsp edition text)) Separates i y) (sym e) (separator-left i (past_white_in edition text i) (run-found (white_of edition) text i) h)

  -- past the text there is none
  pub separator-end : (i : ℕ) → length text ≤ i → past_separator_of edition text i ≡ i
  unfolding past_separator_of
  separator-end i past =
      let w = all_end (white_of edition) text i past in
      ap (past_white_in edition text) (ap (past_comma_of text) w ∙ sym (one_end commas text i past)) ∙ w

  -- a separator has a byte, and an optional one does not go back
  pub comma-grows : (i q : ℕ) → comma-wsp edition text i q → i < q
  unfolding comma-wsp
  comma-grows i q (inl (m, p, (n, inl b, w))) = let x = plus-lt p in let y = b.next in let z = star-le w in omega arith
  comma-grows i q (inl (m, p, (n, inr z, w))) = let x = plus-lt p in let y = star-le w in omega arith
  comma-grows i q (inr (m, b, w)) = let y = b.next in let z = star-le w in omega arith

  pub separator-le : (i q : ℕ) → opt (comma-wsp edition text) i q → i ≤ q
  separator-le i q (inl c) = let h = comma-grows i q c in omega arith
  separator-le i q (inr z) = omega arith

  -- before what starts as a number does, the separator is the one that was found
  pub separator-forced : (i q : ℕ) → opt (comma-wsp edition text) i q → stands text q number_starts ≡ true → q ≡ past_separator_of edition text i
  separator-forced i q o h =
      ⊎_elim (λ z. z) (λ g. absurd (not-both {l = comma_white edition} {m = number_starts} (separator-apart edition) (standing (comma_white edition) q g) (standing number_starts q h))) ((separator-past i).1 q o)
