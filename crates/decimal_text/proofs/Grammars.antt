-- The public grammar of decimal text and the number of SVG 1.1's grammar have the same words. Assumes nothing.
use Prim.Native.Nat.{ℕ}
use mathlib.Core.Path.{◌≡◌, refl, subst}
use mathlib.Core.List.{List}
use mathlib.Core.Logic.{◌⊎◌, inl, inr}
use Rattle.strict_grammar.specs.Spans.{Span, ◌·◌, ◌∥◌, opt, star, none, more, plus, longest}
use Rattle.strict_grammar.specs.Grammar.{sign, digit-sequence, exponent, fractional-constant, floating-point-constant, integer-constant, number}
use Rattle.strict_grammar.specs.declared.Edition.TheVariants.{Svg11}
use Rattle.strict_grammar.proofs.SpanLaws.{plus-star, star-or}
use Rattle.decimal_text.specs.Converts.{Digit, Point, Mantissa, Exponent, Converts}

module _ (text : List ℕ) where
  -- a number of SVG 1.1, not yet the longest
  abbrev pub Signed : Span
  Signed = opt (sign Svg11 text) · integer-constant Svg11 text ∥ opt (sign Svg11 text) · floating-point-constant Svg11 text

  -- ---- from the one to the other

  exponent-to : (m k : ℕ) → opt (Exponent text) m k → opt (exponent Svg11 text) m k
  unfolding Exponent exponent digit-sequence
  exponent-to m k x = x

  fraction-behind : (i p q k : ℕ) → plus (Digit text) i p → Point text p q → star (Digit text) q k → fractional-constant Svg11 text i k
  unfolding fractional-constant digit-sequence
  fraction-behind i p q k d b (none e) = inr (p, d, subst (λ (z : ℕ). Point text p z) e b)
  fraction-behind i p q k d b (more x r) = inl (p, inl d, (q, b, (_, x, r)))

  fraction-before : (i p q k : ℕ) → star (Digit text) i p → Point text p q → plus (Digit text) q k → fractional-constant Svg11 text i k
  unfolding fractional-constant digit-sequence
  fraction-before i p q k s b d = go (star-or s)
    where
      go : (i ≡ p) ⊎ plus (Digit text) i p → fractional-constant Svg11 text i k
      go (inl e) = inl (p, inr e, (q, b, d))
      go (inr c) = inl (p, inl c, (q, b, d))

  unsigned-to : (i k : ℕ) → (Mantissa text · opt (Exponent text)) i k → integer-constant Svg11 text i k ⊎ floating-point-constant Svg11 text i k
  unfolding Mantissa Exponent floating-point-constant exponent digit-sequence
  unsigned-to i k (m, inl d, inl x) = inr (inr (m, d, x))
  unsigned-to i k (m, inl d, inr e) = inl (subst (λ (z : ℕ). plus (Digit text) i z) e d)
  unsigned-to i k (m, inr (inl (p, d, (q, b, s))), x) = inr (inl (m, fraction-behind i p q m d b s, x))
  unsigned-to i k (m, inr (inr (p, s, (q, b, d))), x) = inr (inl (m, fraction-before i p q m s b d, x))

  pub converts-signed : (i k : ℕ) → Converts text i k → Signed i k
  unfolding Converts
  converts-signed i k (t, o, u) = go (unsigned-to t k u)
    where
      go : integer-constant Svg11 text t k ⊎ floating-point-constant Svg11 text t k → Signed i k
      go (inl d) = inl (t, o, d)
      go (inr f) = inr (t, o, f)

  -- ---- and back

  mantissa-back : (i m : ℕ) → fractional-constant Svg11 text i m → Mantissa text i m
  unfolding fractional-constant digit-sequence Mantissa
  mantissa-back i m (inl (p, inl d, (q, b, c))) = inr (inr (p, plus-star d, (q, b, c)))
  mantissa-back i m (inl (p, inr e, (q, b, c))) = inr (inr (p, none e, (q, b, c)))
  mantissa-back i m (inr (p, d, b)) = inr (inl (p, d, (m, b, none refl)))

  pub signed-converts : (i k : ℕ) → Signed i k → Converts text i k
  unfolding Converts Exponent Mantissa floating-point-constant exponent digit-sequence
  signed-converts i k (inl (t, o, d)) = (t, o, (k, inl d, inr refl))
  signed-converts i k (inr (t, o, inl (m, f, x))) = (t, o, (m, mantissa-back t m f, x))
  signed-converts i k (inr (t, o, inr (m, d, x))) = (t, o, (m, inl d, inl x))

  -- the longest number of SVG 1.1 is the longest text that converts
  pub number-converts : (i k : ℕ) → number Svg11 text i k → longest (Converts text) i k
  unfolding number
  number-converts i k n = (signed-converts i k n.0, λ j c. n.1 j (converts-signed i j c))
