-- The grammar's groups laid flat: white space, and then commands with a gap after each, the first a moveto. `Rest alone begun i` says that the text
-- can be read to its end from i, where a command is due; where the first one stands alone, no second is. Assumes nothing.
use Prim.Native.Nat.{ℕ, ◌≤◌, ◌<◌}
use mathlib.Core.Path.{◌≡◌, refl, sym, subst, ◌∙◌}
use mathlib.Core.Bool.{Bool, true, false, ◌&&◌}
use mathlib.Core.List.{List}
use mathlib.Core.Logic.{◌⊎◌, inl, inr, ⊎_elim}
use native.Mathlib.Omega.{arith}
use lib.Dec.{T}
use borrow.Author.Tests.{ltb-false}
use lib.ListN.{length}
use Rattle.scan.specs.Bytes.{among, commas, number_starts}
use Rattle.scan.specs.Runs.{stands}
use Rattle.scan.proofs.ByteLaws.{apartb, clash}
use Rattle.scan.proofs.RunLaws.{stands-within, stands-past}
use Rattle.strict_grammar.specs.Spans.{◌·◌, opt, star, none, longest, sequence, last, then}
use Rattle.strict_grammar.specs.Grammar.{white_of, wsp, gap, comma-wsp, moveto, drawto-command, drawto-commands, moveto-drawto-command-group, moveto-drawto-command-groups, svg-path, Matches}
use Rattle.strict_grammar.specs.Words.{Past, Lacks, Goes, past_white_in, past_gap_of}
use Rattle.strict_grammar.specs.declared.Edition.{Edition}
use Rattle.strict_grammar.specs.declared.Edition.TheVariants.{Svg11, Svg2}
use Rattle.strict_grammar.proofs.SpanLaws.{standing, other, le-or, joined, star-le, star-stops, star-rest, plus-star, run-same, run-found}
use Rattle.strict_grammar.proofs.Separators.{comma-apart, number-apart}
use Rattle.strict.specs.Commands.{command_letters, Command, alone_of}
use Rattle.strict.proofs.CommandLaws.{command-letter}

pub data Rest (edition : Edition) (text : List ℕ) (alone : Bool) : Bool → ℕ → Type 0 where
  ended : {begun : Bool} {i : ℕ} → i ≡ length text → Rest edition text alone begun i
  goes_on :
      {begun : Bool} {i k : ℕ} (j : ℕ) → (alone && begun) ≡ false → Command edition text begun i j → gap edition text j k → Rest edition text alone true k
      → Rest edition text alone begun i

and-false : (t : Bool) → (t && false) ≡ false
and-false true = refl
and-false false = refl

letter-apart : (edition : Edition) → T (apartb command_letters (white_of edition))
unfolding among
letter-apart Svg11 = tt
letter-apart Svg2 = tt

-- ---- what may stand between two commands

gap-none : (edition : Edition) (text : List ℕ) (i : ℕ) → gap edition text i i
gap-none Svg11 text i = none refl
gap-none Svg2 text i = refl

gap-joined : (edition : Edition) (text : List ℕ) (i j k : ℕ) → gap edition text i j → gap edition text j k → gap edition text i k
gap-joined Svg11 text i j k w u = joined w u
gap-joined Svg2 text i j k w u = w ∙ u

-- it is white space
pub gap-white : (edition : Edition) (text : List ℕ) (i j : ℕ) → gap edition text i j → star (wsp edition text) i j
gap-white Svg11 text i j w = w
gap-white Svg2 text i j w = none w

gap-found : (edition : Edition) (text : List ℕ) (i : ℕ) → gap edition text i (past_gap_of edition text i)
unfolding past_gap_of
gap-found Svg11 text i = (run-found (white_of Svg11) text i).0
gap-found Svg2 text i = refl

-- where no white space follows, it is the one that the reader passes
gap_same : (edition : Edition) (text : List ℕ) (i k : ℕ) → gap edition text i k → stands text k (white_of edition) ≡ false → k ≡ past_gap_of edition text i
unfolding past_gap_of
gap_same Svg11 text i k w h = run-same (run-found (white_of Svg11) text i) w h
gap_same Svg2 text i k w h = sym w

pub gap-onward : (edition : Edition) (text : List ℕ) (i k : ℕ) → k ≡ past_gap_of edition text i → i ≤ k
gap-onward edition text i k e = let h = star-le (gap-white edition text i (past_gap_of edition text i) (gap-found edition text i)) in omega arith

module _ (edition : Edition) (text : List ℕ) where
  -- ---- from the groups

  weaken : {i : ℕ} → Rest edition text false false i → Rest edition text false true i
  weaken (ended z) = ended z
  weaken (goes_on j _ m w r) = goes_on {begun = true} j refl (inl m) w r

  -- a gap, and then a rest
  abbrev After : ℕ → Type 0
  After j = (k : ℕ) × gap edition text j k × Rest edition text false true k

  draws : {i j : ℕ} → sequence (drawto-command edition text) (gap edition text) i j → After j → Rest edition text false true i
  draws {j = j} (last d) a = goes_on {begun = true} j refl (inr d) a.1 a.2
  draws (then {k = k} d w ds) a = goes_on {begun = true} k refl (inr d) w (draws ds a)

  group : {i j : ℕ} → (moveto edition text · gap edition text · opt (drawto-commands edition text)) i j → After j → Rest edition text false false i
  unfolding drawto-commands
  group (x, m, (y, w, inl ds)) a = goes_on {begun = false} x refl m w (draws ds a)
  group (x, m, (y, w, inr z)) a =
      goes_on {begun = false} x refl m (gap-joined edition text x y a.0 w (subst (λ (q : ℕ). gap edition text q a.0) (sym z) a.1)) a.2

  groups : {i j : ℕ} → sequence (moveto-drawto-command-group edition text) (gap edition text) i j → After j → Rest edition text false false i
  unfolding moveto-drawto-command-group
  groups (last g) a = group g a
  groups (then {m = m} g w gs) a = group g (m, w, weaken (groups gs a))

  -- ---- and back to them

  abbrev More : ℕ → Type 0
  More m = (m ≡ length text) ⊎ ((p : ℕ) × moveto-drawto-command-groups edition text m p × gap edition text p (length text))

  abbrev Tail : ℕ → Type 0
  Tail i = (j : ℕ) × opt (drawto-commands edition text) i j × ((m : ℕ) × gap edition text j m × More m)

  new-group :
      (i j : ℕ) {k : ℕ} → moveto edition text i j → gap edition text j k → Tail k
      → (p : ℕ) × moveto-drawto-command-groups edition text i p × gap edition text p (length text)
  unfolding moveto-drawto-command-groups moveto-drawto-command-group
  new-group i j {k} mv w (x, o, (m, u, inl z)) = (x, last (j, mv, (k, w, o)), subst (λ (q : ℕ). gap edition text x q) z u)
  new-group i j {k} mv w (x, o, (m, u, inr (p, gs, v))) = (p, then (j, mv, (k, w, o)) u gs, v)

  more-draw : (i j k : ℕ) → drawto-command edition text i j → gap edition text j k → Tail k → Tail i
  unfolding drawto-commands
  more-draw i j k d w (x, inl ds, t) = (x, inl (then d w ds), t)
  more-draw i j k d w (x, inr z, (m, u, t)) =
      (j, inl (last d), (m, gap-joined edition text j k m w (subst (λ (q : ℕ). gap edition text q m) (sym z) u), t))

  tail : {i : ℕ} → Rest edition text false true i → Tail i
  tail {i} (ended z) = (i, inr refl, (i, gap-none edition text i, inl z))
  tail {i} (goes_on j _ (inl mv) w r) = (i, inr refl, (i, gap-none edition text i, inr (new-group i j mv w (tail r))))
  tail {i} (goes_on {k = k} j _ (inr d) w r) = more-draw i j k d w (tail r)

  -- ---- what stands where a command is due: no white space, no comma, no number

  due : (class : List ℕ) → T (apartb command_letters class) → {alone begun : Bool} {k : ℕ} → Rest edition text alone begun k → stands text k class ≡ false
  due class t {k = k} (ended z) = stands-past class text k (omega arith)
  due class t (goes_on {begun = b} {i = k} j _ c w r) = other class t (standing command_letters k (command-letter edition text b k j c))

  due-white : {alone begun : Bool} {k : ℕ} → Rest edition text alone begun k → stands text k (white_of edition) ≡ false
  due-white r = due (white_of edition) (letter-apart edition) r

  due-number : {alone begun : Bool} {k : ℕ} → Rest edition text alone begun k → stands text k number_starts ≡ false
  unfolding among
  due-number r = due number_starts tt r

  due-comma : {alone begun : Bool} {k : ℕ} → Rest edition text alone begun k → stands text k commas ≡ false
  unfolding among
  due-comma r = due commas tt r

  number-no-white : (m : ℕ) → stands text m number_starts ≡ true → stands text m (white_of edition) ≡ false
  number-no-white m h = other {l = number_starts} (white_of edition) (number-apart edition) (standing number_starts m h)

  comma-no-white : (m : ℕ) → stands text m commas ≡ true → stands text m (white_of edition) ≡ false
  comma-no-white m h = other {l = commas} (white_of edition) (comma-apart edition) (standing commas m h)

  -- two runs of white space from one place that end where it does
  ends_same :
      {i j k : ℕ} → star (wsp edition text) i j → stands text j (white_of edition) ≡ false → star (wsp edition text) i k → stands text k (white_of edition) ≡ false → j ≡ k
  ends_same {i} {j} {k} a f b g = ⊎_elim (λ h. star-stops f (star-rest a b h)) (λ h. sym (star-stops g (star-rest b a h))) (le-or j k)

  -- where a sequence could go on, no command is due after the white space
  module _ {alone : Bool} {j k : ℕ} (w : star (wsp edition text) j k) (r : Rest edition text alone true k) where
    not-number : (m : ℕ) → star (wsp edition text) j m → stands text m number_starts ≡ true → ⊥
    not-number m u h =
        clash h (subst (λ (y : ℕ). stands text y number_starts ≡ false) (sym (ends_same u (number-no-white m h) w (due-white r))) (due-number r))

    not-comma : (m : ℕ) → star (wsp edition text) j m → stands text m commas ≡ true → ⊥
    not-comma m u h =
        clash h (subst (λ (y : ℕ). stands text y commas ≡ false) (sym (ends_same u (comma-no-white m h) w (due-white r))) (due-comma r))

    no-goes : Goes edition text j → ⊥
    unfolding comma-wsp
    no-goes (m, inr z, h) = not-number m (none z) h
    no-goes (m, inl (inl (x, p, (y, inl b, u))), h) = not-comma x (plus-star p) b.there
    no-goes (m, inl (inl (x, p, (y, inr z, u))), h) =
        not-number m (joined (plus-star p) (subst (λ (q : ℕ). star (wsp edition text) q m) (sym z) u)) h
    no-goes (m, inl (inr (x, b, u)), h) = not-comma j (none refl) b.there

-- ---- before the first command

pub white-found : (edition : Edition) (text : List ℕ) (i k : ℕ) → k ≡ past_white_in edition text i → longest (star (wsp edition text)) i k
white-found edition text i k e = subst (λ (y : ℕ). longest (star (wsp edition text)) i y) (sym e) (run-found (white_of edition) text i)

-- the white space before a rest is all that there is
led : (edition : Edition) (text : List ℕ) {alone begun : Bool} (k : ℕ) → k ≡ past_white_in edition text 0 → (i : ℕ) → star (wsp edition text) 0 i
    → Rest edition text alone begun i → i ≡ k
led edition text k e i w r = run-same (white-found edition text 0 k e) w (due-white edition text r)

abbrev pub Started : Edition → List ℕ → ℕ → Type 0
Started edition text k = Rest edition text (alone_of edition k) false k

pub to-started : (edition : Edition) (text : List ℕ) (k : ℕ) → k ≡ past_white_in edition text 0 → Matches edition text → Started edition text k
unfolding Matches svg-path moveto-drawto-command-groups
to-started Svg11 text k e (a, w, (b, inl gs, u)) =
    let r = groups Svg11 text gs (length text, u, ended refl) in
    subst (Rest Svg11 text false false) (led Svg11 text k e a w r) r
to-started Svg11 text k e (a, w, (b, inr z, u)) =
    ended (sym (led Svg11 text {alone = false} {begun = false} k e (length text) (joined w (subst (λ (q : ℕ). star (wsp Svg11 text) q (length text)) (sym z) u)) (ended refl)))
to-started Svg2 text k e (inl (a, w, inl m)) =
    let r = lone (alone_of Svg2 k) in
    subst (Rest Svg2 text (alone_of Svg2 k) false) (led Svg2 text k e a w r) r
  where
    lone : (alone : Bool) → Rest Svg2 text alone false a
    lone alone = goes_on {begun = false} (length text) (and-false alone) m refl (ended refl)
to-started Svg2 text k e (inl (a, w, inr z)) = ended (sym (led Svg2 text {alone = false} {begun = false} k e a w (ended z)) ∙ z)
to-started Svg2 text k e (inr (inl gs)) =
    let r = groups Svg2 text gs (length text, refl, ended refl) in
    subst (Started Svg2 text) (led Svg2 text k e 0 (none refl) r) r
to-started Svg2 text k e (inr (inr z)) = ended (sym (led Svg2 text {alone = false} {begun = false} k e 0 (none refl) (ended z)) ∙ z)

of-started : (edition : Edition) (text : List ℕ) (k : ℕ) → k ≡ past_white_in edition text 0 → Started edition text k → Matches edition text
unfolding Matches svg-path
of-started Svg11 text k e (ended z) = (k, (white-found Svg11 text 0 k e).0, (k, inr refl, subst (star (wsp Svg11 text) k) z (none refl)))
of-started Svg11 text k e (goes_on j _ m u r) =
    let g = new-group Svg11 text k j m u (tail Svg11 text r) in
    (k, (white-found Svg11 text 0 k e).0, (g.0, inl g.1, g.2))
of-started Svg2 text k e (ended z) = inl (k, (white-found Svg2 text 0 k e).0, inr z)
of-started Svg2 text k e (goes_on {k = n} j _ m u r) = go (alone_of Svg2 k) refl r
  where
    go : (alone : Bool) → alone_of Svg2 k ≡ alone → Rest Svg2 text alone true n → svg-path Svg2 text 0 (length text)
    go true h (ended z) = inl (k, (white-found Svg2 text 0 k e).0, inl (subst (moveto Svg2 text k) (u ∙ z) m))
    go true h (goes_on _ f _ _ _) = absurd (clash refl f)
    go false h r =
        let g = new-group Svg2 text k j m u (tail Svg2 text r) in
        let z : k ≡ 0 = omega (arith, ltb-false 0 k h) in
        inr (inl (subst (λ (q : ℕ). moveto-drawto-command-groups Svg2 text q (length text)) z (subst (moveto-drawto-command-groups Svg2 text k) g.2 g.1)))

pub set_out :
    (edition : Edition) (text : List ℕ) (k : ℕ) (alone : Bool) → k ≡ past_white_in edition text 0 → alone ≡ alone_of edition k
    → (Matches edition text → Rest edition text alone false k) × (Rest edition text alone false k → Matches edition text)
set_out edition text k alone e a =
    subst (λ (t : Bool). (Matches edition text → Rest edition text t false k) × (Rest edition text t false k → Matches edition text)) (sym a)
    (to-started edition text k e, of-started edition text k e)

-- ---- the reader's turns

module _ (edition : Edition) (text : List ℕ) (alone : Bool) where
  -- after a command and a gap
  pub goes-forth :
      (begun : Bool) (i j k : ℕ) → i < length text → Past (Command edition text begun) (Goes edition text) i j → k ≡ past_gap_of edition text j
      → Rest edition text alone begun i → Rest edition text alone true k
  goes-forth begun i j k h c e (ended z) = absurd (omega arith)
  goes-forth begun i j k h c e (goes_on {k = y} x _ m w t) =
      ⊎_elim
      (λ z. subst (Rest edition text alone true) (gap_same edition text j y (subst (λ (q : ℕ). gap edition text q y) z w) (due-white edition text t) ∙ sym e) t)
      (λ g. absurd (no-goes edition text (gap-white edition text x y w) t g)) (c.1 x m)

  pub goes_back :
      (begun : Bool) (i j k : ℕ) → (alone && begun) ≡ false → Past (Command edition text begun) (Goes edition text) i j → k ≡ past_gap_of edition text j
      → Rest edition text alone true k → Rest edition text alone begun i
  goes_back begun i j k f c e r = goes_on {begun = begun} j f c.0 (subst (gap edition text j) (sym e) (gap-found edition text j)) r

  -- a second command, though the first stands alone
  pub no_second : (begun : Bool) (i : ℕ) → i < length text → (alone && begun) ≡ true → Rest edition text alone begun i → ⊥
  no_second begun i h f (ended z) = omega arith
  no_second begun i h f (goes_on x g m w t) = clash f g

  -- no command, though the text goes on
  pub no_more : (begun : Bool) (i : ℕ) → i < length text → Lacks (Command edition text begun) i → Rest edition text alone begun i → ⊥
  no_more begun i h c (ended z) = omega arith
  no_more begun i h c (goes_on x _ m w t) = c x m

  -- the text's end
  pub at-end : (begun : Bool) (i : ℕ) → length text ≤ i → Rest edition text alone begun i → i ≡ length text
  at-end begun i h (ended z) = z
  at-end begun i h (goes_on x _ m w t) =
      let g = stands-within command_letters text i (command-letter edition text begun i x m) in absurd (omega arith)
