-- What the documents say of whole texts and of arcs, as theorems about the grammar: "white space .. alone is a yes; a comma at the end is a no";
-- an arc's radii have no sign, and what its words lost by that is the sign alone. Assumes nothing.
use Prim.Native.Nat.{ℕ, zero, suc, ◌+◌, ◌≤◌, ◌<◌}
use mathlib.Core.Path.{◌≡◌, refl, sym, subst, ◌∙◌, ap}
use mathlib.Core.Bool.{Bool, true, false}
use mathlib.Core.List.{List, [], ◌∷◌}
use mathlib.Core.Logic.{◌⊎◌, inl, inr, ⊎_elim}
use native.Mathlib.Omega.{arith}
use lib.Dec.{T}
use lib.ListN.{length, get_or}
use Rattle.scan.specs.Bytes.{among, digits, signs, points, commas, white_space, flags}
use Rattle.scan.specs.Runs.{stands}
use Rattle.scan.proofs.ByteLaws.{apartb, clash, alone-is}
use Rattle.scan.proofs.RunLaws.{stands-inside}
use Rattle.strict_grammar.specs.Spans.{Span, Byte, ◌·◌, ◌∥◌, opt, star, none, more, plus, longest, sequence, last, then, editions, never}
use Rattle.strict_grammar.specs.Grammar.{white_of, wsp, digit, flag, letter, digit-sequence, exponent, fractional-constant, floating-point-constant}
use Rattle.strict_grammar.specs.Grammar.{nonnegative-number, number, comma-wsp, coordinate-pair, rotation, elliptical-arc-argument, moveto-argument-sequence}
use Rattle.strict_grammar.specs.Grammar.{moveto, closepath, lineto, horizontal-lineto, vertical-lineto, curveto, smooth-curveto, quadratic-bezier-curveto}
use Rattle.strict_grammar.specs.Grammar.{smooth-quadratic-bezier-curveto, elliptical-arc, drawto-command, gap, drawto-commands, moveto-drawto-command-group}
use Rattle.strict_grammar.specs.Grammar.{moveto-drawto-command-groups, svg-path, Matches}
use Rattle.strict_grammar.specs.declared.Edition.{Edition}
use Rattle.strict_grammar.specs.declared.Edition.TheVariants.{Svg11, Svg2}
use Rattle.strict_grammar.proofs.SpanLaws.{standing, not-both, wider, run-between}
use Rattle.strict_grammar.proofs.Numbers.{of-11, number-stops, nonnegative-no-sign, nonnegative-is, nonnegative-of}

-- ---- white space alone

white-run : (edition : Edition) (text : List ℕ) → star (wsp edition text) 0 (length text) → Matches edition text
unfolding Matches svg-path
white-run Svg11 text w = (length text, w, (length text, inr refl, none refl))
white-run Svg2 text w = inl (length text, w, inr refl)

-- a text of white space alone matches
pub white-alone-matches :
    (edition : Edition) (text : List ℕ) → ((k : ℕ) → k < length text → among (get_or text k 0) (white_of edition) ≡ true) → Matches edition text
white-alone-matches edition text white =
    white-run edition text
    (run-between (white_of edition) text 0 (length text) (omega arith) (λ k a b. stands-inside (white_of edition) text k b ∙ white k b))

-- the empty text matches
pub empty-matches : (edition : Edition) → Matches edition []
empty-matches edition = white-alone-matches edition [] (λ k h. absurd (omega arith))

-- ---- a comma at the end

white-apart : (edition : Edition) → T (apartb (white_of edition) commas)
unfolding among
white-apart Svg11 = tt
white-apart Svg2 = tt

module _ (edition : Edition) (text : List ℕ) where
  -- the byte before j is a comma
  abbrev AfterComma : ℕ → Type 0
  AfterComma j = (k : ℕ) × (j ≡ k + 1) × (stands text k commas ≡ true)

  -- no word of P ends after a comma
  abbrev Never : Span → Type 0
  Never P = (i j : ℕ) → P i j → AfterComma j → ⊥

  -- a word of P ends after a comma only where it starts after one
  abbrev Keeps : Span → Type 0
  Keeps P = (i j : ℕ) → P i j → AfterComma j → AfterComma i

  -- ---- what the combinators make of it

  byte-never : (class : List ℕ) → T (apartb class commas) → Never (Byte text class)
  byte-never class t i j b (k, e, c) =
      let same : k ≡ i = omega (arith, b.next) in
      not-both t b (standing commas i (subst (λ (y : ℕ). stands text y commas ≡ true) same c))

  then_never : (P Q : Span) → Never Q → Never (P · Q)
  then_never P Q n i j (k, p, q) c = n k j q c

  keeps-never : (P Q : Span) → Never P → Keeps Q → Never (P · Q)
  keeps-never P Q n m i j (k, p, q) c = n i k p (m k j q c)

  or-never : (P Q : Span) → Never P → Never Q → Never (P ∥ Q)
  or-never P Q n m i j (inl p) c = n i j p c
  or-never P Q n m i j (inr q) c = m i j q c

  opt-keeps : (P : Span) → Never P → Keeps (opt P)
  opt-keeps P n i j (inl p) c = absurd (n i j p c)
  opt-keeps P n i j (inr e) c = subst AfterComma (sym e) c

  star-keeps : (P : Span) → Never P → Keeps (star P)
  star-keeps P n i j (none e) c = subst AfterComma (sym e) c
  star-keeps P n i j (more {k = k} p w) c = absurd (n i k p (star-keeps P n k j w c))

  then_keeps : (P Q : Span) → Keeps P → Keeps Q → Keeps (P · Q)
  then_keeps P Q n m i j (k, p, q) c = n i k p (m k j q c)

  plus-never : (P : Span) → Never P → Never (plus P)
  plus-never P n = keeps-never P (star P) n (star-keeps P n)

  sequence-never : (P S : Span) → Never P → Never (sequence P S)
  sequence-never P S n i j (last p) c = n i j p c
  sequence-never P S n i j (then {m = m} p s w) c = sequence-never P S n m j w c

  -- ---- numbers and arguments

  white-never : Never (wsp edition text)
  white-never = byte-never (white_of edition) (white-apart edition)

  point-never : Never (Byte text points)
  unfolding among
  point-never = byte-never points tt

  flag-never : Never (flag edition text)
  unfolding among
  flag-never = byte-never flags tt

  digits-never : Never (digit-sequence edition text)
  unfolding digit-sequence among
  digits-never = plus-never (digit edition text) (byte-never digits tt)

  exponent-never : Never (exponent edition text)
  unfolding exponent
  exponent-never i j (k, b, (m, o, d)) c = digits-never m j d c

  fraction-never : Never (fractional-constant edition text)
  unfolding fractional-constant
  fraction-never i j (inl (k, o, (m, b, d))) c = digits-never m j d c
  fraction-never i j (inr t) c =
      let (k, d, b) = of-11 edition (digit-sequence edition text · Byte text points) i j t in
      point-never k j b c

  floating-never : Never (floating-point-constant edition text)
  unfolding floating-point-constant
  floating-never i j (inl (k, f, inl x)) c = exponent-never k j (of-11 edition (exponent edition text) k j x) c
  floating-never i j (inl (k, f, inr z)) c = fraction-never i k f (subst AfterComma (sym z) c)
  floating-never i j (inr (k, d, x)) c = exponent-never k j (of-11 edition (exponent edition text) k j x) c

  number-never : Never (number edition text)
  unfolding number
  number-never i j (inl (k, o, d), _) c = digits-never k j d c
  number-never i j (inr (k, o, f), _) c = floating-never k j f c

  pair-never : Never (coordinate-pair edition text)
  unfolding coordinate-pair
  pair-never i j (k, n, (m, o, p)) c = number-never m j p c

  two-pairs-never : Never (coordinate-pair edition text · opt (comma-wsp edition text) · coordinate-pair edition text)
  two-pairs-never i j (k, n, (m, o, p)) c = pair-never m j p c

  three-pairs-never : Never (coordinate-pair edition text · opt (comma-wsp edition text) · coordinate-pair edition text · opt (comma-wsp edition text) · coordinate-pair edition text)
  three-pairs-never i j (k, n, (m, o, p)) c = two-pairs-never m j p c

  arc-never : Never (elliptical-arc-argument edition text)
  unfolding elliptical-arc-argument
  arc-never i j (_, _, (_, _, (_, _, (_, _, (_, _, (_, _, (_, _, (_, _, (_, _, (m, _, p)))))))))) c = pair-never m j p c

  moveto-arguments-never : Never (moveto-argument-sequence edition text)
  unfolding moveto-argument-sequence
  moveto-arguments-never i j (inl p) c = pair-never i j p c
  moveto-arguments-never i j (inr (k, p, (m, o, w))) c = sequence-never (coordinate-pair edition text) (opt (comma-wsp edition text)) pair-never m j w c

  -- ---- commands

  lettered-never : (class : List ℕ) (P : Span) → Never P → Never (Byte text class · star (wsp edition text) · sequence P (opt (comma-wsp edition text)))
  lettered-never class P n i j (k, b, (m, w, s)) c = sequence-never P (opt (comma-wsp edition text)) n m j s c

  moveto-never : Never (moveto edition text)
  unfolding moveto
  moveto-never i j (k, b, (m, w, s)) c = moveto-arguments-never m j s c

  drawto-never : Never (drawto-command edition text)
  unfolding drawto-command closepath lineto horizontal-lineto vertical-lineto curveto smooth-curveto quadratic-bezier-curveto smooth-quadratic-bezier-curveto elliptical-arc among
  drawto-never i j (inl b) c = byte-never (90 ∷ 122 ∷ []) tt i j b c
  drawto-never i j (inr (inl w)) c = lettered-never _ _ pair-never i j w c
  drawto-never i j (inr (inr (inl w))) c = lettered-never _ _ number-never i j w c
  drawto-never i j (inr (inr (inr (inl w)))) c = lettered-never _ _ number-never i j w c
  drawto-never i j (inr (inr (inr (inr (inl w))))) c = lettered-never _ _ three-pairs-never i j w c
  drawto-never i j (inr (inr (inr (inr (inr (inl w)))))) c = lettered-never _ _ two-pairs-never i j w c
  drawto-never i j (inr (inr (inr (inr (inr (inr (inl w))))))) c = lettered-never _ _ two-pairs-never i j w c
  drawto-never i j (inr (inr (inr (inr (inr (inr (inr (inl w)))))))) c = lettered-never _ _ pair-never i j w c
  drawto-never i j (inr (inr (inr (inr (inr (inr (inr (inr w)))))))) c = lettered-never _ _ arc-never i j w c

  gap-keeps : (edition : Edition) → Keeps (gap edition text)
  gap-keeps Svg11 i j w c = star-keeps (wsp Svg11 text) (byte-never (white_of Svg11) (white-apart Svg11)) i j w c
  gap-keeps Svg2 i j e c = subst AfterComma (sym e) c

  drawtos-never : Never (drawto-commands edition text)
  unfolding drawto-commands
  drawtos-never = sequence-never (drawto-command edition text) (gap edition text) drawto-never

  group-never : Never (moveto-drawto-command-group edition text)
  unfolding moveto-drawto-command-group
  group-never i j (k, m, (n, w, o)) c =
      moveto-never i k m (gap-keeps edition k n w (opt-keeps (drawto-commands edition text) drawtos-never n j o c))

  groups-never : Never (moveto-drawto-command-groups edition text)
  unfolding moveto-drawto-command-groups
  groups-never = sequence-never (moveto-drawto-command-group edition text) (gap edition text) group-never

path-keeps : (edition : Edition) (text : List ℕ) → Keeps edition text (svg-path edition text)
unfolding svg-path
path-keeps Svg11 text i j (k, w, (m, o, u)) c =
    star-keeps Svg11 text (wsp Svg11 text) (white-never Svg11 text) i k w
    (opt-keeps Svg11 text (moveto-drawto-command-groups Svg11 text) (groups-never Svg11 text) k m o (star-keeps Svg11 text (wsp Svg11 text) (white-never Svg11 text) m j u c))
path-keeps Svg2 text i j (inl (k, w, o)) c =
    star-keeps Svg2 text (wsp Svg2 text) (white-never Svg2 text) i k w (opt-keeps Svg2 text (moveto Svg2 text) (moveto-never Svg2 text) k j o c)
path-keeps Svg2 text i j (inr o) c = opt-keeps Svg2 text (moveto-drawto-command-groups Svg2 text) (groups-never Svg2 text) i j o c

-- a text whose last byte is a comma matches neither edition
pub comma-at-end-fails : (edition : Edition) (text : List ℕ) (n : ℕ) → length text ≡ n + 1 → get_or text n 0 ≡ 44 → Matches edition text → ⊥
unfolding Matches
comma-at-end-fails edition text n e b m =
    let h : stands text n commas ≡ true = stands-inside commas text n (omega arith) ∙ alone-is (get_or text n 0) 44 b in
    let c = path-keeps edition text 0 (length text) m (n, e, h) in
    omega (arith, c.1)

-- ---- an arc's argument

-- a rotation is a number
pub rotation-is : (edition : Edition) (text : List ℕ) (i j : ℕ) → rotation edition text i j → number edition text i j
unfolding rotation
rotation-is Svg11 text i j n = n
rotation-is Svg2 text i j n = nonnegative-is Svg2 text i j n

module _ (edition : Edition) (text : List ℕ) where
  -- no flag stands where a rotation ends
  no-flag-after : (i j k : ℕ) → rotation edition text i j → flag edition text j k → ⊥
  unfolding among
  no-flag-after i j k n f = clash (wider {l = flags} {m = digits} tt f).there (number-stops edition text i j (rotation-is edition text i j n))

  -- so a separator stands between a rotation and what starts with a flag, whether it must or may
  pub flag-separated :
      (Q : Span) (i j : ℕ) → (rotation edition text · opt (comma-wsp edition text) · flag edition text · Q) i j
      → (rotation edition text · comma-wsp edition text · flag edition text · Q) i j
  flag-separated Q i j (k, n, (m, inl c, w)) = (k, n, (m, c, w))
  flag-separated Q i j (k, n, (m, inr z, (x, f, w))) = absurd (no-flag-after i k x n (subst (λ (y : ℕ). flag edition text y x) (sym z) f))

module _ (text : List ℕ) where
  -- the fields after the radii, each separated optionally
  abbrev Rotated : Span
  Rotated = number Svg11 text · opt (comma-wsp Svg11 text) · flag Svg11 text · opt (comma-wsp Svg11 text) · flag Svg11 text · opt (comma-wsp Svg11 text) · coordinate-pair Svg11 text

  -- document 01's argument, whose second radius starts at m: "two signed radii, a signed rotation, two flags and a pair, each separated optionally"
  abbrev pub Signable : ℕ → ℕ → ℕ → Type 0
  Signable i m j = (k : ℕ) × number Svg11 text i k × opt (comma-wsp Svg11 text) k m × (number Svg11 text · opt (comma-wsp Svg11 text) · Rotated) m j

  -- no sign stands before a radius
  abbrev pub Bare : ℕ → ℕ → Type 0
  Bare i m = (stands text i signs ≡ false) × (stands text m signs ≡ false)

  -- in 1.1 an arc's argument is document 01's with no sign before a radius, and nothing else parts the two
  pub arc-bare : (i j : ℕ) → elliptical-arc-argument Svg11 text i j → (m : ℕ) × Signable i m j × Bare i m
  unfolding elliptical-arc-argument rotation
  arc-bare i j (k, n, (m, o, (p, q, (x, s, (y, r, (z, c, w)))))) = (
    m,
    (k, nonnegative-is Svg11 text i k n, o, (p, nonnegative-is Svg11 text m p q, (x, s, (y, r, (z, inl c, w))))),
    (nonnegative-no-sign Svg11 text i k n, nonnegative-no-sign Svg11 text m p q),
  )

  pub bare-arc : (i m j : ℕ) → Signable i m j → Bare i m → elliptical-arc-argument Svg11 text i j
  unfolding elliptical-arc-argument rotation
  bare-arc i m j (k, n, o, (p, q, (x, s, w))) (h, g) =
      (k, nonnegative-of Svg11 text i k h n, (m, o, (p, nonnegative-of Svg11 text m p g q, (x, s, flag-separated Svg11 text (opt (comma-wsp Svg11 text) · flag Svg11 text · opt (comma-wsp Svg11 text) · coordinate-pair Svg11 text) x j w))))
