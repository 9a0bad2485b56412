-- SVG 2 to the letter: its number, its coordinate and its whole path, written as the Candidate Recommendation writes them, have the words of the
-- productions that both editions share; and a form feed tells the editions apart. Assumes nothing.
use Prim.Native.Nat.{ℕ, ◌+◌, ◌≤◌, ◌<◌}
use mathlib.Core.Path.{◌≡◌, refl, sym, subst, ◌∙◌}
use mathlib.Core.Bool.{true, false}
use mathlib.Core.List.{List, [], ◌∷◌}
use mathlib.Core.Logic.{◌⊎◌, inl, inr, ⊎_elim}
use native.Mathlib.Omega.{arith}
use lib.ListN.{get_or}
use Rattle.scan.specs.Bytes.{among, points}
use Rattle.scan.specs.Runs.{stands}
use Rattle.scan.proofs.ByteLaws.{clash}
use Rattle.strict_grammar.specs.Spans.{Span, Byte, ◌·◌, ◌∥◌, opt, star, none, more, plus, longest, sequence, last, then, empty}
use Rattle.strict_grammar.specs.Grammar.{white_of, wsp, digit, sign, digit-sequence, fractional-constant, floating-point-constant}
use Rattle.strict_grammar.specs.Grammar.{nonnegative-number, number, moveto, drawto-command, drawto-commands, moveto-drawto-command-group}
use Rattle.strict_grammar.specs.Grammar.{moveto-drawto-command-groups, svg-path, Matches}
use Rattle.strict_grammar.specs.declared.Edition.TheVariants.{Svg11, Svg2}
use Rattle.strict_grammar.proofs.SpanLaws.{star-stops, plus-star, star-or}
use Rattle.strict_grammar.proofs.Numbers.{Unsigned, signed-longest, longest-signed}
use Rattle.strict_grammar.proofs.Theorems.{white-alone-matches}

module _ (text : List ℕ) where
  -- ---- a number

  -- ([0-9])+ | ([0-9])* "." ([0-9])+
  abbrev Letter : Span
  Letter = plus (digit Svg2 text) ∥ star (digit Svg2 text) · Byte text points · plus (digit Svg2 text)

  to-letter : (i j : ℕ) → Unsigned Svg2 text i j → Letter i j
  unfolding floating-point-constant fractional-constant digit-sequence
  to-letter i j (inl d) = inl d
  to-letter i j (inr (inl (k, inl (p, inl d, w), inr z))) = subst (Letter i) z (inr (p, plus-star d, w))
  to-letter i j (inr (inl (k, inl (p, inr y, w), inr z))) = subst (Letter i) z (inr (p, none y, w))
  to-letter i j (inr (inl (k, inr f, inr z))) = absurd f
  to-letter i j (inr (inl (k, f, inl x))) = absurd x
  to-letter i j (inr (inr (k, d, x))) = absurd x

  of-letter : (i j : ℕ) → Letter i j → Unsigned Svg2 text i j
  unfolding floating-point-constant fractional-constant digit-sequence
  of-letter i j (inl d) = inl d
  of-letter i j (inr (p, s, w)) = inr (inl (j, inl (p, ⊎_elim inr inl (star-or s), w), inr refl))

  -- number ::= ([0-9])+ | ([0-9])* "." ([0-9])+
  pub number-to-letter : (i j : ℕ) → nonnegative-number Svg2 text i j → longest Letter i j
  unfolding nonnegative-number
  number-to-letter i j n = (to-letter i j n.0, λ k w. n.1 k (of-letter i k w))

  pub number-of-letter : (i j : ℕ) → longest Letter i j → nonnegative-number Svg2 text i j
  unfolding nonnegative-number
  number-of-letter i j n = (of-letter i j n.0, λ k w. n.1 k (to-letter i k w))

  -- coordinate ::= sign? number
  pub coordinate-to-letter : (i j : ℕ) → number Svg2 text i j → (opt (sign Svg2 text) · nonnegative-number Svg2 text) i j
  unfolding nonnegative-number
  coordinate-to-letter i j n = signed-longest Svg2 text i j n

  pub coordinate-of-letter : (i j : ℕ) → (opt (sign Svg2 text) · nonnegative-number Svg2 text) i j → number Svg2 text i j
  unfolding nonnegative-number
  coordinate-of-letter i j n = longest-signed Svg2 text i j n

  -- ---- the whole path

  -- drawto_command ::= moveto | closepath | ..
  abbrev Command : Span
  Command = moveto Svg2 text ∥ drawto-command Svg2 text

  -- wsp* moveto? | (moveto drawto_command*)?
  abbrev Path : Span
  Path = star (wsp Svg2 text) · opt (moveto Svg2 text) ∥ opt (moveto Svg2 text · star Command)

  draws-to : {i j k : ℕ} → sequence (drawto-command Svg2 text) empty i j → star Command j k → star Command i k
  draws-to (last d) w = more (inr d) w
  draws-to {k = k} (then d z ds) w = more (inr d) (subst (λ (y : ℕ). star Command y k) (sym z) (draws-to ds w))

  group-to : (i j k : ℕ) → moveto-drawto-command-group Svg2 text i j → star Command j k → (moveto Svg2 text · star Command) i k
  unfolding moveto-drawto-command-group drawto-commands
  group-to i j k (x, m, (y, z, inl ds)) w = (x, m, subst (λ (y : ℕ). star Command y k) (sym z) (draws-to ds w))
  group-to i j k (x, m, (y, z, inr e)) w = (x, m, subst (λ (y : ℕ). star Command y k) (sym (z ∙ e)) w)

  groups-to : (i j : ℕ) → sequence (moveto-drawto-command-group Svg2 text) empty i j → (moveto Svg2 text · star Command) i j
  groups-to i j (last g) = group-to i j j g (none refl)
  groups-to i j (then {k = k} {m = m} g z gs) =
      let (x, v, w) = groups-to m j gs in
      group-to i k j g (subst (λ (y : ℕ). star Command y j) (sym z) (more (inl v) w))

  -- drawto-commands up to the next group, and the groups from there on
  abbrev Tail : Span
  Tail i j = (m : ℕ) × opt (drawto-commands Svg2 text) i m × opt (moveto-drawto-command-groups Svg2 text) m j

  new-group : (i k j : ℕ) → moveto Svg2 text i k → Tail k j → moveto-drawto-command-groups Svg2 text i j
  unfolding moveto-drawto-command-groups moveto-drawto-command-group
  new-group i k j v (m, o, inl gs) = then (k, v, (k, refl, o)) refl gs
  new-group i k j v (m, o, inr z) = subst (moveto-drawto-command-groups Svg2 text i) z (last (k, v, (k, refl, o)))

  more-draw : (i k j : ℕ) → drawto-command Svg2 text i k → Tail k j → Tail i j
  unfolding drawto-commands
  more-draw i k j d (m, inl ds, t) = (m, inl (then d refl ds), t)
  more-draw i k j d (m, inr z, t) = (m, inl (last (subst (drawto-command Svg2 text i) z d)), t)

  tail : {i j : ℕ} → star Command i j → Tail i j
  tail {i} (none z) = (i, inr refl, inr z)
  tail {i} {j} (more {k = k} (inl v) w) = (i, inr refl, inl (new-group i k j v (tail w)))
  tail {i} {j} (more {k = k} (inr d) w) = more-draw i k j d (tail w)

  pub path-to-letter : (i j : ℕ) → svg-path Svg2 text i j → Path i j
  unfolding svg-path moveto-drawto-command-groups
  path-to-letter i j (inl w) = inl w
  path-to-letter i j (inr (inl gs)) = inr (inl (groups-to i j gs))
  path-to-letter i j (inr (inr z)) = inr (inr z)

  pub path-of-letter : (i j : ℕ) → Path i j → svg-path Svg2 text i j
  unfolding svg-path
  path-of-letter i j (inl w) = inl w
  path-of-letter i j (inr (inl (k, v, w))) = inr (inl (new-group i k j v (tail w)))
  path-of-letter i j (inr (inr z)) = inr (inr z)

-- ---- a form feed alone

abbrev form_feed : List ℕ
form_feed = 12 ∷ []

-- "for one, a form feed is white space there"
pub form-feed-matches-2 : Matches Svg2 form_feed
unfolding among
form-feed-matches-2 = white-alone-matches Svg2 form_feed (λ k h. white k h)
  where
    white : (k : ℕ) → k < 1 → among (get_or form_feed k 0) (white_of Svg2) ≡ true
    white k h = let z : 0 ≡ k = omega arith in subst (λ (y : ℕ). among (get_or form_feed y 0) (white_of Svg2) ≡ true) z refl

no-white : stands form_feed 0 (white_of Svg11) ≡ false
unfolding stands among
no-white = refl

no_move : (k m : ℕ) → 0 ≡ k → moveto Svg11 form_feed k m → ⊥
unfolding moveto stands among
no_move k m z v = clash (subst (λ (y : ℕ). stands form_feed y (77 ∷ 109 ∷ []) ≡ true) (sym z) v.1.there) refl

no-groups : (k m : ℕ) → 0 ≡ k → moveto-drawto-command-groups Svg11 form_feed k m → ⊥
unfolding moveto-drawto-command-groups moveto-drawto-command-group
no-groups k m z (last g) = no_move k g.0 z g.1
no-groups k m z (then g w gs) = no_move k g.0 z g.1

pub form-feed-fails-11 : Matches Svg11 form_feed → ⊥
unfolding Matches svg-path
form-feed-fails-11 (k, w, (m, inl gs, u)) = no-groups k m (star-stops no-white w) gs
form-feed-fails-11 (k, w, (m, inr z, u)) =
    let e = star-stops no-white (subst (λ (y : ℕ). star (wsp Svg11 form_feed) y 1) (sym (star-stops no-white w ∙ z)) u) in
    omega (arith, e)
