-- The permissive reader passes what is left of a derivation, command by command and group by group, and so reads it. The derivation is laid flat by strict's own law (`Rest`),
-- so that it is done once. Assumes nothing.
use Prim.Native.Nat.{ℕ, zero, suc, ◌+◌, ◌≤◌, ◌<◌}
use mathlib.Core.Path.{◌≡◌, refl, sym, subst, ◌∙◌, ap}
use mathlib.Core.Bool.{Bool, true, false, not}
use mathlib.Core.List.{List, [], ◌∷◌}
use mathlib.Core.Logic.{◌⊎◌, inl, inr, ⊎_elim}
use native.Mathlib.Omega.{arith}
use lib.Dec.{T, eqb}
use borrow.Author.Tests.{eqb-true, not-true}
use lib.ListN.{length, get_or}
use Rattle.scan.specs.Bytes.{among, separators, number_starts}
use Rattle.scan.specs.Runs.{stands, past_separators_of}
use Rattle.scan.proofs.ByteLaws.{withinb, within, clash, either-of, either_way, each}
use Rattle.scan.proofs.RunLaws.{stands-past, stands-within, stands-among}
use Rattle.strict_grammar.specs.Spans.{Byte, ◌·◌, opt, star, none, more}
use Rattle.strict_grammar.specs.Grammar.{wsp, comma-wsp, moveto, drawto-command}
use Rattle.strict_grammar.specs.declared.Edition.{Edition}
use Rattle.strict_grammar.proofs.SpanLaws.{standing, other}
use Rattle.strict_argument.specs.Reading.{argument_of}
use Rattle.strict_argument.specs.declared.groups.Kind.{Kind}
use Rattle.strict_argument.specs.declared.groups.Kind.TheVariants.{Coordinate, Pair, TwoPairs, ThreePairs, Arc}
use Rattle.strict_argument.proofs.Starts.{argument-starts}
use Rattle.strict.specs.Commands.{move_letters, close_letters, letters_of, command_letters, Arguments, Item, Command}
use Rattle.strict.proofs.Letters.{kind-within}
use Rattle.strict.proofs.Sequences.{to-star}
use Rattle.strict.proofs.CommandLaws.{of-moveto, by-letter, command-letter}
use Rattle.strict.proofs.Rests.{Rest, ended, goes_on, gap-white}
use Rattle.commands.specs.declared.command.PathCommand.{PathCommand}
use Rattle.svg_group.specs.Letters.{is_letter_of, meaning_of, width_of}
use Rattle.svg_group.specs.Passing.{pass_group_of}
use Rattle.svg_group.specs.declared.letters.Kind.{Kind as Drawing}
use Rattle.svg_group.specs.declared.letters.Kind.TheVariants.{Move, Line, Horizontal, Vertical, Cubic, SmoothCubic, Quad, SmoothQuad, Arc as Ellipse}
use Rattle.svg_group.specs.declared.letters.Letter.TheVariants.{Draws, Closes}
use Rattle.std.specs.Prelude.{Option, Some, None, Result, Ok, Err}
use Rattle.answers.specs.declared.refusals.Refusal.{Refusal}
use Rattle.svg_group.specs.Numbers.{and_then}
use Rattle.svg_step.specs.Steps.{needs_point_of, repeated_of, due_group_of, due_letter_of, due_at_of, next_due_of, Step, read_step_of, pass_to, passed, pass_step_of}
use Rattle.svg_step.specs.declared.steps.Reader.{Reader}
use Rattle.svg_step.specs.declared.steps.Due.{Due}
use Rattle.svg_step.specs.declared.steps.Due.TheVariants.{Close, Group}
use Rattle.svg_step.specs.declared.steps.Stepped.{Stepped}
use Rattle.svg_step.specs.declared.steps.Pass.{Pass}
use Rattle.svg_step.proofs.Ahead.{step-ahead}
use Rattle.svg_step.proofs.Passed.{pass_of, step-passed}
use Rattle.svg_step.proofs.StepCases.{group-due, letter-closes, letter-placed, letter-moves, again-draws, due-done, due-letter, due-other}
use Rattle.svg.specs.Texts.{commands, prepend, follow, read_from}
use Rattle.strict_permissive.proofs.Follows.{Follows, follows-items, follows-command, past-separator, past-white}
use Rattle.strict_permissive.proofs.Groups.{pass_kind, number-no-separator, kind-passed}

-- ---- the letters and what they draw

-- the argument of each kind of command
abbrev kind_of : Drawing → Kind
kind_of Move = Pair
kind_of Line = Pair
kind_of Horizontal = Coordinate
kind_of Vertical = Coordinate
kind_of Cubic = ThreePairs
kind_of SmoothCubic = TwoPairs
kind_of Quad = TwoPairs
kind_of SmoothQuad = Pair
kind_of Ellipse = Arc

group-is : (text : List ℕ) (at : ℕ) (draws : Drawing) → pass_group_of text at draws ≡ pass_kind text (kind_of draws) at
unfolding pass_group_of
group-is text at Move = refl
group-is text at Line = refl
group-is text at Horizontal = refl
group-is text at Vertical = refl
group-is text at Cubic = refl
group-is text at SmoothCubic = refl
group-is text at Quad = refl
group-is text at SmoothQuad = refl
group-is text at Ellipse = refl

repeated-is : (draws : Drawing) → kind_of (repeated_of draws) ≡ kind_of draws
unfolding repeated_of
repeated-is Move = refl
repeated-is Line = refl
repeated-is Horizontal = refl
repeated-is Vertical = refl
repeated-is Cubic = refl
repeated-is SmoothCubic = refl
repeated-is Quad = refl
repeated-is SmoothQuad = refl
repeated-is Ellipse = refl

-- a fact of each byte of a class
abbrev Each : (ℕ → Type 0) → List ℕ → Type 0
Each P [] = Unit
Each P (x ∷ l) = P x × Each P l

one_of : (P : ℕ → Type 0) (l : List ℕ) → Each P l → (b : ℕ) → among b l ≡ true → P b
unfolding among
one_of P [] t b h = absurd (clash h refl)
one_of P (x ∷ l) t b h = ⊎_elim (λ e. subst P (sym (eqb-true b x e)) t.0) (λ e. one_of P l t.1 b e) (either-of (eqb b x) (among b l) h)

-- a letter that takes arguments of a kind
pub record Means (kind : Kind) (letter : ℕ) : Type 0 where
  draws : Drawing
  means : meaning_of letter ≡ Draws draws
  takes : kind_of draws ≡ kind

made : (kind : Kind) (letter : ℕ) (draws : Drawing) → meaning_of letter ≡ Draws draws → kind_of draws ≡ kind → Means kind letter
made kind letter draws e f = record { draws = draws; means = e; takes = f }

kind-means : (kind : Kind) (b : ℕ) → among b (letters_of kind) ≡ true → Means kind b
unfolding meaning_of among
kind-means Coordinate b h =
    one_of (Means Coordinate) (letters_of Coordinate) (made _ _ Horizontal refl refl, (made _ _ Horizontal refl refl, (made _ _ Vertical refl refl, (made _ _ Vertical refl refl, tt)))) b h
kind-means Pair b h =
    one_of (Means Pair) (letters_of Pair) (made _ _ Line refl refl, (made _ _ Line refl refl, (made _ _ SmoothQuad refl refl, (made _ _ SmoothQuad refl refl, tt)))) b h
kind-means TwoPairs b h =
    one_of (Means TwoPairs) (letters_of TwoPairs) (made _ _ SmoothCubic refl refl, (made _ _ SmoothCubic refl refl, (made _ _ Quad refl refl, (made _ _ Quad refl refl, tt)))) b h
kind-means ThreePairs b h = one_of (Means ThreePairs) (letters_of ThreePairs) (made _ _ Cubic refl refl, (made _ _ Cubic refl refl, tt)) b h
kind-means Arc b h = one_of (Means Arc) (letters_of Arc) (made _ _ Ellipse refl refl, (made _ _ Ellipse refl refl, tt)) b h

move-means : (b : ℕ) → among b move_letters ≡ true → meaning_of b ≡ Draws Move
unfolding meaning_of among
move-means b h = one_of (λ (x : ℕ). meaning_of x ≡ Draws Move) move_letters (refl, (refl, tt)) b h

close-means : (b : ℕ) → among b close_letters ≡ true → meaning_of b ≡ Closes
unfolding meaning_of among
close-means b h = one_of (λ (x : ℕ). meaning_of x ≡ Closes) close_letters (refl, (refl, tt)) b h

letter-is : (b : ℕ) → among b command_letters ≡ true → is_letter_of b ≡ true
unfolding among is_letter_of
letter-is b h = each is_letter_of command_letters tt b h

number-isnt : (b : ℕ) → among b number_starts ≡ true → is_letter_of b ≡ false
unfolding among is_letter_of
number-isnt b h = not-true (is_letter_of b) (each (λ x. not (is_letter_of x)) number_starts tt b h)

-- ---- passing on from a place

pub data Passes (text : List ℕ) : ℕ → ℕ → Bool → Type 0 where
  ends : {from letter : ℕ} {placed : Bool} → pass_step_of text from letter placed ≡ Ok None → Passes text from letter placed
  steps : {from letter : ℕ} {placed : Bool} (width next kept : ℕ) → pass_step_of text from letter placed ≡ Ok (Some (pass_to width next kept)) → Passes text next kept true → Passes text from letter placed

module _ (text : List ℕ) where
  -- what is due past the separators
  due-next :
      (from letter : ℕ) (placed : Bool) {at : ℕ} {due : Result Due Refusal} → at ≡ past_separators_of text from → due ≡ due_at_of text at letter placed
      → due ≡ next_due_of text from letter placed
  unfolding next_due_of
  due-next from letter placed e d = d ∙ ap (λ a. due_at_of text a letter placed) e

  passed-group :
      (from letter : ℕ) (placed : Bool) (draws : Drawing) (kept first next : ℕ) → Ok (Group draws kept first) ≡ next_due_of text from letter placed
      → pass_group_of text first draws ≡ Ok next → pass_step_of text from letter placed ≡ Ok (Some (pass_to (width_of draws) next kept))
  unfolding pass_step_of
  passed-group from letter placed draws kept first next d g =
      ap (λ (due : Result Due Refusal). and_then due (passed text)) (sym d)
      ∙ ap (λ (r : Result ℕ Refusal). and_then r (λ (n : ℕ). Ok (Some (pass_to (width_of draws) n kept)))) g

  passed-close : (from letter : ℕ) (placed : Bool) (next : ℕ) → Ok (Close next) ≡ next_due_of text from letter placed → pass_step_of text from letter placed ≡ Ok (Some (pass_to 0 next 0))
  unfolding pass_step_of
  passed-close from letter placed next d = ap (λ (due : Result Due Refusal). and_then due (passed text)) (sym d)

  passed-end : (from letter : ℕ) (placed : Bool) (at : ℕ) → at ≡ past_separators_of text from → length text ≤ at → pass_step_of text from letter placed ≡ Ok None
  unfolding pass_step_of
  passed-end from letter placed at e h = ap (λ (due : Result Due Refusal). and_then due (passed text)) (sym (due-next from letter placed e (due-done text at letter placed h)))

module _ (edition : Edition) (text : List ℕ) where
  starts-past : (kind : Kind) (i j : ℕ) → argument_of edition text kind i j → (past_separators_of text i ≡ i) × (among (get_or text i 0) number_starts ≡ true)
  starts-past kind i j a =
      let h = argument-starts edition text kind i j a in
      (past-white edition text i i (none refl) (number-no-separator text i h), stands-among number_starts text i h)

  -- the group of a kind from where its argument starts
  group-passed : (draws : Drawing) (kind : Kind) → kind_of draws ≡ kind → (i j : ℕ) → argument_of edition text kind i j → Follows text j → pass_group_of text i draws ≡ Ok j
  group-passed draws kind e i j a f =
      group-is text i draws ∙ ap (λ (k : Kind). pass_kind text k i) e ∙ kind-passed edition text kind i i j (starts-past kind i j a).0 a f

  -- ---- further arguments: "any other byte repeats it"

  module _ (kind : Kind) (letter : ℕ) (m : Means kind letter) where
    again-due : (from i j : ℕ) → opt (comma-wsp edition text) from i → argument_of edition text kind i j → Ok (Group (repeated_of m.draws) letter i) ≡ next_due_of text from letter true
    again-due from i j o a =
        let h = argument-starts edition text kind i j a in
        let (p, n) = starts-past kind i j a in
        due-next text from letter true (sym (past-separator edition text from i o (number-no-separator text i h)))
        (due-other text i letter true (stands-within number_starts text i h) _ (number-isnt (get_or text i 0) n)
        (again-draws text i letter m.draws (repeated_of m.draws) _ m.means refl (group-due text i (repeated_of m.draws) letter i (get_or text i 0) (sym p) refl n)))

    items-pass : {i j : ℕ} → star (Item edition text kind) i j → Follows text j → Passes text j letter true → Passes text i letter true
    items-pass {i} {j} (none z) f t = subst (λ (y : ℕ). Passes text y letter true) (sym z) t
    items-pass {i} {j} (more {k = k} (x, o, a) w) f t =
        let g = group-passed (repeated_of m.draws) kind (repeated-is m.draws ∙ m.takes) x k a (follows-items edition text kind w f) in
        steps (width_of (repeated_of m.draws)) k letter (passed-group text i letter true (repeated_of m.draws) letter x k (again-due i x k o a) g) (items-pass w f t)

  -- ---- a command

  module _ (from i : ℕ) (at : i ≡ past_separators_of text from) (letter : ℕ) (placed : Bool) where
    module _ (kind : Kind) (there : i < length text) (is : is_letter_of (get_or text i 0) ≡ true) (m : Means kind (get_or text i 0)) where
      -- the letter's first group
      letter-due : (needs_point_of m.draws ≡ false) ⊎ (placed ≡ true) → (x y : ℕ) → star (wsp edition text) (i + 1) x → argument_of edition text kind x y
          → Ok (Group m.draws (get_or text i 0) x) ≡ next_due_of text from letter placed
      letter-due free x y w a =
          let h = argument-starts edition text kind x y a in
          let d = group-due text (i + 1) m.draws (get_or text i 0) x (get_or text x 0) (sym (past-white edition text (i + 1) x w (number-no-separator text x h))) refl (stands-among number_starts text x h) in
          due-next text from letter placed at (due-letter text i letter placed there _ is (drawn free (either_way (needs_point_of m.draws)) d))
        where
          drawn : (needs_point_of m.draws ≡ false) ⊎ (placed ≡ true) → (needs_point_of m.draws ≡ true) ⊎ (needs_point_of m.draws ≡ false)
              → {due : Result Due Refusal} → due ≡ due_group_of text (i + 1) m.draws (get_or text i 0) → due ≡ due_letter_of text i (get_or text i 0) placed
          drawn f (inr n) d = letter-moves text i (get_or text i 0) placed m.draws m.means _ n d
          drawn (inr p) (inl n) d = letter-placed text i (get_or text i 0) placed m.draws m.means _ n p d
          drawn (inl n) (inl z) d = absurd (clash z n)

      arguments-pass : (needs_point_of m.draws ≡ false) ⊎ (placed ≡ true) → (j : ℕ) → Arguments edition text kind (i + 1) j → Follows text j
          → ((kept : ℕ) → Passes text j kept true) → Passes text from letter placed
      arguments-pass free j (x, w, u) f t =
          let (y, a, items) = to-star u in
          let g = group-passed m.draws kind m.takes x y a (follows-items edition text kind items f) in
          steps (width_of m.draws) y (get_or text i 0) (passed-group text from letter placed m.draws (get_or text i 0) x y (letter-due free x y w a) g)
          (items-pass kind (get_or text i 0) m items f (t (get_or text i 0)))

    lettered : (class : List ℕ) → T (withinb class command_letters) → stands text i class ≡ true → is_letter_of (get_or text i 0) ≡ true
    lettered class t h = letter-is (get_or text i 0) (within class command_letters t (get_or text i 0) (stands-among class text i h))

    move-passes : (j : ℕ) → moveto edition text i j → Follows text j → ((kept : ℕ) → Passes text j kept true) → Passes text from letter placed
    unfolding among needs_point_of made
    move-passes j w f t =
        let (x, b, u) = of-moveto edition text i j w in
        let e = move-means (get_or text i 0) (stands-among move_letters text i b.there) in
        arguments-pass Pair (stands-within move_letters text i b.there) (lettered move_letters tt b.there) (made Pair (get_or text i 0) Move e refl) (inl refl) j
        (subst (λ (y : ℕ). Arguments edition text Pair y j) b.next u) f t

    draw-passes : placed ≡ true → (j : ℕ) → drawto-command edition text i j → Follows text j → ((kept : ℕ) → Passes text j kept true) → Passes text from letter placed
    unfolding among
    draw-passes p j d f t = ⊎_elim closes draws (by-letter edition text i j d)
      where
        closes : Byte text close_letters i j → Passes text from letter placed
        closes b =
            let e = close-means (get_or text i 0) (stands-among close_letters text i b.there) in
            let c = due-next text from letter placed at (due-letter text i letter placed (stands-within close_letters text i b.there) _ (lettered close_letters tt b.there) (letter-closes text i (get_or text i 0) placed e)) in
            steps 0 (i + 1) 0 (passed-close text from letter placed (i + 1) c) (subst (λ (y : ℕ). Passes text y 0 true) b.next (t 0))

        draws : (kind : Kind) × (Byte text (letters_of kind) · Arguments edition text kind) i j → Passes text from letter placed
        draws (kind, (x, b, u)) =
            arguments-pass kind (stands-within (letters_of kind) text i b.there) (lettered (letters_of kind) (kind-within kind) b.there)
            (kind-means kind (get_or text i 0) (stands-among (letters_of kind) text i b.there)) (inr p) j (subst (λ (y : ℕ). Arguments edition text kind y j) b.next u) f t

    command-passes : (begun : Bool) → (begun ≡ true → placed ≡ true) → (j : ℕ) → Command edition text begun i j → Follows text j → ((kept : ℕ) → Passes text j kept true) → Passes text from letter placed
    command-passes true p j (inl w) f t = move-passes j w f t
    command-passes true p j (inr d) f t = draw-passes (p refl) j d f t
    command-passes false p j w f t = move-passes j w f t

  -- ---- the whole text

  -- no separator stands where a command is due
  pub due-separator : {alone begun : Bool} {k : ℕ} → Rest edition text alone begun k → stands text k separators ≡ false
  unfolding among
  due-separator {k = k} (ended z) = stands-past separators text k (omega arith)
  due-separator (goes_on {begun = begun} {i = k} j _ c w r) = other {l = command_letters} separators tt (standing command_letters k (command-letter edition text begun k j c))

  pub rest-passes :
      {alone begun : Bool} {i : ℕ} → Rest edition text alone begun i → (from letter : ℕ) (placed : Bool) → (begun ≡ true → placed ≡ true)
      → past_separators_of text from ≡ i → Passes text from letter placed
  rest-passes {i = i} (ended z) from letter placed p e = ends (passed-end text from letter placed i (sym e) (omega arith))
  rest-passes {i = i} (goes_on {begun = begun} {k = k} j _ c w r) from letter placed p e =
      command-passes from i (sym e) letter placed begun p j c (follows-command edition text j k w r)
      (λ kept. rest-passes r j kept true (λ _. refl) (past-white edition text j k (gap-white edition text j k w) (due-separator r)))

-- ---- what passes is read

module _ (text : List ℕ) where
  pass-done : (step : Step) → pass_of step ≡ Ok None → step ≡ Ok None
  pass-done (Ok (Some step)) e = cc
  pass-done (Ok None) e = refl
  pass-done (Err reason) e = cc

  abbrev place_in : ℕ → Result (Option Pass) Refusal → ℕ
  place_in n (Ok (Some pass)) = pass.next
  place_in n (Ok None) = n
  place_in n (Err reason) = n

  abbrev kept_in : ℕ → Result (Option Pass) Refusal → ℕ
  kept_in n (Ok (Some pass)) = pass.letter
  kept_in n (Ok None) = n
  kept_in n (Err reason) = n

  pass-command :
      (width next kept : ℕ) (step : Step) → pass_of step ≡ Ok (Some (pass_to width next kept))
      → (taken : Stepped) × (step ≡ Ok (Some taken)) × (taken.next.at ≡ next) × (taken.next.letter ≡ kept)
  pass-command width next kept (Ok (Some taken)) e = (taken, refl, ap (place_in next) e, ap (kept_in kept) e)
  pass-command width next kept (Ok None) e = cc
  pass-command width next kept (Err reason) e = cc

  abbrev Read : ℕ → Reader → Type 0
  Read count reader = (list : List PathCommand) × (read_from count text reader ≡ commands list)

  read-on : (count : ℕ) (reader : Reader) (taken : Stepped) → read_step_of text reader ≡ Ok (Some taken) → Read count taken.next → Read (suc count) reader
  unfolding read_from
  read-on count reader taken d (list, q) = (taken.command ∷ list, ap (follow (read_from count text)) d ∙ ap (prepend taken.command) q)

  pub passes-read :
      {from letter : ℕ} {placed : Bool} → Passes text from letter placed → (reader : Reader) → reader.at ≡ from → reader.letter ≡ letter
      → reader.placed ≡ placed → (count : ℕ) → Read count reader
  unfolding read_from
  passes-read (ends e) reader a l p zero = ([], refl)
  passes-read (ends e) reader a l p (suc count) =
      let d = pass-done (read_step_of text reader) (step-passed text reader ∙ rw (a, l, p) e) in
      ([], ap (follow (read_from count text)) d)
  passes-read (steps width next kept e t) reader a l p zero = ([], refl)
  passes-read (steps width next kept e t) reader a l p (suc count) =
      let s = pass-command width next kept (read_step_of text reader) (step-passed text reader ∙ rw (a, l, p) e) in
      read-on count reader s.0 s.1 (passes-read t s.0.next s.2 s.3 (step-ahead text reader s.0 s.1).2 count)
