-- Of any text that reads, a command made by S or T has the first control that SVG 1.1 gives it (8.3.6, 8.3.7). Assumes nothing.
use Prim.Native.Nat.{ℕ, zero, suc, ◌+◌}
use mathlib.Core.Path.{◌≡◌, refl, sym, ap, subst, ◌∙◌}
use mathlib.Core.Bool.{Bool, true, false, cond, ◌||◌}
use mathlib.Core.List.{List, [], ◌∷◌}
use mathlib.Core.Logic.{◌⊎◌, inl, inr, ⊎_elim}
use native.Mathlib.Omega.{arith}
use borrow.Author.Tests.{eqb-true}
use lib.Dec.{eqb, ltb}
use lib.ListN.{length, get_or}
use Rattle.std.specs.Prelude.{Some, None, Result, Ok, Err}
use Rattle.answers.specs.declared.refusals.Refusal.{Refusal}
use Rattle.scan.specs.Bytes.{among, number_starts}
use Rattle.scan.specs.Runs.{past_separators_of}
use Rattle.math.specs.Math.{add_of, sub_of}
use Rattle.math.specs.declared.points.Point.{Point}
use Rattle.commands.specs.declared.command.PathCommand.{PathCommand}
use Rattle.commands.specs.declared.command.PathCommand.TheVariants.{MoveTo, LineTo, QuadTo, CubicTo, ArcTo, ClosePath}
use Rattle.svg_group.specs.Letters.{is_letter_of, meaning_of}
use Rattle.svg_group.specs.Numbers.{and_then, read_number_of, read_flags_of, point_of, read_pair_of}
use Rattle.svg_group.specs.Groups.{read_move_of, read_line_of, read_horizontal_of, read_vertical_of, read_cubic_of, read_smooth_cubic_of, read_quad_of, read_smooth_quad_of, read_arc_of, read_group_of}
use Rattle.svg_group.specs.declared.letters.Kind.{Kind}
use Rattle.svg_group.specs.declared.letters.Kind.TheVariants.{Move, Line, Horizontal, Vertical, Cubic, SmoothCubic, Quad, SmoothQuad, Arc}
use Rattle.svg_group.specs.declared.letters.Letter.{Letter}
use Rattle.svg_group.specs.declared.letters.Letter.TheVariants.{Draws, Closes, Unknown}
use Rattle.svg_group.specs.declared.groups.Group.{Group}
use Rattle.svg_group.proofs.Thens.{then-elim}
use Rattle.svg_step.specs.Steps.{origin, fresh_of, is_relative_of, needs_point_of, repeated_of, mirrored_of, draws_cubic, draws_quad, of_kind, takes_up_of, first_control_of}
use Rattle.svg_step.specs.Steps.{after_of, due_group_of, begun, due_letter_of, again, due_again_of, due_at_of, next_due_of, offset_of, taken, Step, stepped_to, stepped, read_step_of}
use Rattle.svg_step.specs.declared.steps.Reader.{Reader}
use Rattle.svg_step.specs.declared.steps.Due.{Due}
use Rattle.svg_step.specs.declared.steps.Due.TheVariants.{Done, Close, Group as GroupDue}
use Rattle.svg.specs.Texts.{Outcome, commands, refusal, prepend, follow, read_from, commands_of}
use Rattle.svg.specs.Smooth.{Entry, made_by, entered, entries_beginning, entries_of, commands_in, end_of, start_of, cubic_first, quad_first, CubicFrom, QuadFrom, is_cubic, is_quad, Follows, Smooth}

-- ---- letters

one_of : (x a b : ℕ) → among x (a ∷ b ∷ []) ≡ true → (x ≡ a) ⊎ (x ≡ b)
unfolding among
one_of x a b h = either (eqb x a) refl (eqb x b) refl h
  where
    either : (p : Bool) → eqb x a ≡ p → (q : Bool) → eqb x b ≡ q → (p || (q || false)) ≡ true → (x ≡ a) ⊎ (x ≡ b)
    either true e q f h = inl (eqb-true x a e)
    either false e true f h = inr (eqb-true x b f)
    either false e false f h = let z : ◌≡◌ {A = ℕ} 0 1 = cc in absurd (omega arith)

s-means : (letter : ℕ) → among letter (83 ∷ 115 ∷ []) ≡ true → meaning_of letter ≡ Draws SmoothCubic
unfolding meaning_of among
s-means letter h = ⊎_elim (λ e. rw e) (λ e. rw e) (one_of letter 83 115 h)

t-means : (letter : ℕ) → among letter (84 ∷ 116 ∷ []) ≡ true → meaning_of letter ≡ Draws SmoothQuad
unfolding meaning_of among
t-means letter h = ⊎_elim (λ e. rw e) (λ e. rw e) (one_of letter 84 116 h)

-- what a letter's meaning says of the kind of its groups
record Same (kind : Kind) (meaning : Letter) : Type 0 where
  cubic : of_kind draws_cubic meaning ≡ draws_cubic kind
  quad : of_kind draws_quad meaning ≡ draws_quad kind
  smooth_cubic : meaning ≡ Draws SmoothCubic → kind ≡ SmoothCubic
  smooth_quad : meaning ≡ Draws SmoothQuad → kind ≡ SmoothQuad

same-own : (kind : Kind) (meaning : Letter) → meaning ≡ Draws kind → Same kind meaning
same-own kind meaning e = record { cubic = rw e; quad = rw e; smooth_cubic = λ s. cc; smooth_quad = λ s. cc }

same-further : (kind : Kind) (meaning : Letter) → meaning ≡ Draws kind → Same (repeated_of kind) meaning
unfolding repeated_of
same-further Move meaning e =
    record {
      cubic = rw e;
      quad = rw e;
      smooth_cubic = λ s. let z : ◌≡◌ {A = ℕ} 0 1 = cc in absurd (omega arith);
      smooth_quad = λ s. let z : ◌≡◌ {A = ℕ} 0 1 = cc in absurd (omega arith);
    }
same-further Line meaning e = same-own Line meaning e
same-further Horizontal meaning e = same-own Horizontal meaning e
same-further Vertical meaning e = same-own Vertical meaning e
same-further Cubic meaning e = same-own Cubic meaning e
same-further SmoothCubic meaning e = same-own SmoothCubic meaning e
same-further Quad meaning e = same-own Quad meaning e
same-further SmoothQuad meaning e = same-own SmoothQuad meaning e
same-further Arc meaning e = same-own Arc meaning e

-- ---- what is due is due to a letter

cond-elim : (P : Result Due Refusal → Type 0) (b : Bool) (x y : Result Due Refusal) → (b ≡ true → P x) → (b ≡ false → P y) → P (cond b x y)
cond-elim P true x y f g = f refl
cond-elim P false x y f g = g refl

Born : ℕ → Result Due Refusal → Type 0
Born letter (Ok Done) = Unit
Born letter (Err reason) = Unit
Born letter (Ok (Close next)) = meaning_of letter ≡ Closes
Born letter (Ok (GroupDue kind own first)) = (own ≡ letter) × Same kind (meaning_of letter)

either-born : (b : Bool) (byte last : ℕ) (x y : Result Due Refusal) → (b ≡ true → Born byte x) → (b ≡ false → Born last y) → Born (cond b byte last) (cond b x y)
either-born true byte last x y f g = f refl
either-born false byte last x y f g = g refl

module _ (text : List ℕ) where
  group-born : (at : ℕ) (kind : Kind) (letter : ℕ) → Same kind (meaning_of letter) → Born letter (due_group_of text at kind letter)
  unfolding due_group_of Born
  group-born at kind letter s =
      cond-elim (Born letter) (among (get_or text (past_separators_of text at) 0) number_starts) _ _ (λ e. (refl, s)) (λ e. tt)

  begun-born : (at letter : ℕ) (placed : Bool) (meaning : Letter) → meaning_of letter ≡ meaning → Born letter (begun text at letter placed meaning)
  unfolding Born
  begun-born at letter placed (Draws kind) e =
      let t = group-born (at + 1) kind letter (same-own kind (meaning_of letter) e) in
      cond-elim (Born letter) (needs_point_of kind) _ _ (λ n. cond-elim (Born letter) placed _ _ (λ p. t) (λ p. tt)) (λ n. t)
  begun-born at letter placed Closes e = e
  begun-born at letter placed Unknown e = tt

  again-born : (at letter : ℕ) (meaning : Letter) → meaning_of letter ≡ meaning → Born letter (again text at letter meaning)
  unfolding Born
  again-born at letter (Draws kind) e = group-born at (repeated_of kind) letter (same-further kind (meaning_of letter) e)
  again-born at letter Closes e = tt
  again-born at letter Unknown e = tt

  -- the remembered letter is that of the last command, unless it is forgotten
  last-born : (at letter last : ℕ) → (letter ≡ last) ⊎ (meaning_of letter ≡ Unknown) → Born last (due_again_of text at letter)
  unfolding due_again_of Born
  last-born at letter last (inl e) = subst (λ (l : ℕ). Born l (due_again_of text at letter)) e (again-born at letter (meaning_of letter) refl)
  last-born at letter last (inr e) = rw e tt

  due-born : (from letter last : ℕ) (placed : Bool) → (letter ≡ last) ⊎ (meaning_of letter ≡ Unknown) → Born (made_by text from last) (next_due_of text from letter placed)
  unfolding next_due_of due_at_of Born due_letter_of
  due-born from letter last placed h =
      let at = past_separators_of text from in
      let byte = get_or text at 0 in
      cond-elim (Born (made_by text from last)) (ltb at (length text)) _ (Ok Done)
      (λ e.
      either-born (is_letter_of byte) byte last (due_letter_of text at byte placed) (due_again_of text at letter)
      (λ f. begun-born at byte placed (meaning_of byte) refl) (λ f. last-born at letter last h))
      (λ e. tt)

-- ---- what a group makes

SmoothFrom : Kind → Point → PathCommand → Type 0
SmoothFrom Move first command = Unit
SmoothFrom Line first command = Unit
SmoothFrom Horizontal first command = Unit
SmoothFrom Vertical first command = Unit
SmoothFrom Cubic first command = Unit
SmoothFrom SmoothCubic first command = CubicFrom first command
SmoothFrom Quad first command = Unit
SmoothFrom SmoothQuad first command = QuadFrom first command
SmoothFrom Arc first command = Unit

Made : Kind → Point → Result Group Refusal → Type 0
Made kind first (Ok group) = (draws_cubic kind ≡ is_cubic group.command) × (draws_quad kind ≡ is_quad group.command) × SmoothFrom kind first group.command
Made kind first (Err reason) = Unit

module _ (text : List ℕ) (at : ℕ) (relative : Bool) (current first : Point) where
  group-made : (kind : Kind) → Made kind first (read_group_of text at kind relative current first)
  unfolding read_group_of read_move_of read_line_of read_horizontal_of read_vertical_of read_cubic_of read_smooth_cubic_of read_quad_of read_smooth_quad_of read_arc_of Made SmoothFrom
  group-made Move = then-elim (Made Move first) (read_pair_of text at relative current) _ (λ x. tt) (λ v q. (refl, refl, tt))
  group-made Line = then-elim (Made Line first) (read_pair_of text at relative current) _ (λ x. tt) (λ v q. (refl, refl, tt))
  group-made Horizontal = then-elim (Made Horizontal first) (read_number_of text at) _ (λ x. tt) (λ v q. (refl, refl, tt))
  group-made Vertical = then-elim (Made Vertical first) (read_number_of text at) _ (λ x. tt) (λ v q. (refl, refl, tt))
  group-made Cubic =
      then-elim (Made Cubic first) (read_pair_of text at relative current) _ (λ x. tt) (λ v q.
      then-elim (Made Cubic first) (read_pair_of text v.next relative current) _ (λ x. tt) (λ w r.
      then-elim (Made Cubic first) (read_pair_of text w.next relative current) _ (λ x. tt) (λ u s. (refl, refl, tt))))
  group-made SmoothCubic =
      then-elim (Made SmoothCubic first) (read_pair_of text at relative current) _ (λ x. tt) (λ v q.
      then-elim (Made SmoothCubic first) (read_pair_of text v.next relative current) _ (λ x. tt) (λ w r. (refl, refl, (point_of v, point_of w, refl))))
  group-made Quad =
      then-elim (Made Quad first) (read_pair_of text at relative current) _ (λ x. tt) (λ v q.
      then-elim (Made Quad first) (read_pair_of text v.next relative current) _ (λ x. tt) (λ w r. (refl, refl, tt)))
  group-made SmoothQuad = then-elim (Made SmoothQuad first) (read_pair_of text at relative current) _ (λ x. tt) (λ v q. (refl, refl, (point_of v, refl)))
  group-made Arc =
      then-elim (Made Arc first) (read_pair_of text at false current) _ (λ x. tt) (λ radii q.
      then-elim (Made Arc first) (read_number_of text radii.next) _ (λ x. tt) (λ rotation r.
      then-elim (Made Arc first) (read_flags_of text rotation.end) _ (λ x. tt) (λ flags s.
      then-elim (Made Arc first) (read_pair_of text flags.next relative current) _ (λ x. tt) (λ end t. (refl, refl, tt)))))

-- ---- the state past a command

control_of : Point → PathCommand → Point
control_of start (MoveTo end) = end
control_of start (LineTo end) = end
control_of start (QuadTo control end) = control
control_of start (CubicTo control1 control2 end) = control2
control_of start (ArcTo radii rotation large sweep end) = end
control_of start ClosePath = start

-- what the state tells of the command before it, which a letter made
record Past (reader : Reader) (last : ℕ) (previous : PathCommand) : Type 0 where
  current-is : reader.current ≡ end_of reader.start previous
  control-is : reader.control ≡ control_of reader.start previous
  cubic-is : of_kind draws_cubic (meaning_of reader.letter) ≡ is_cubic previous
  quad_is : of_kind draws_quad (meaning_of reader.letter) ≡ is_quad previous
  letter-is : (reader.letter ≡ last) ⊎ (meaning_of reader.letter ≡ Unknown)

module _ (next letter offset : ℕ) (start : Point) where
  after-start : (command : PathCommand) → (after_of command next letter offset start).start ≡ start_of start command
  unfolding after_of
  after-start (MoveTo end) = refl
  after-start (LineTo end) = refl
  after-start (QuadTo control end) = refl
  after-start (CubicTo control1 control2 end) = refl
  after-start (ArcTo radii rotation large sweep end) = refl
  after-start ClosePath = refl

  past_after :
      (command : PathCommand) → of_kind draws_cubic (meaning_of letter) ≡ is_cubic command → of_kind draws_quad (meaning_of letter) ≡ is_quad command
      → Past (after_of command next letter offset start) letter command
  unfolding after_of control_of meaning_of among
  past_after (MoveTo end) c q = record { current-is = refl; control-is = refl; cubic-is = c; quad_is = q; letter-is = inl refl }
  past_after (LineTo end) c q = record { current-is = refl; control-is = refl; cubic-is = c; quad_is = q; letter-is = inl refl }
  past_after (QuadTo control end) c q = record { current-is = refl; control-is = refl; cubic-is = c; quad_is = q; letter-is = inl refl }
  past_after (CubicTo control1 control2 end) c q = record { current-is = refl; control-is = refl; cubic-is = c; quad_is = q; letter-is = inl refl }
  past_after (ArcTo radii rotation large sweep end) c q = record { current-is = refl; control-is = refl; cubic-is = c; quad_is = q; letter-is = inl refl }
  past_after ClosePath c q = record { current-is = refl; control-is = refl; cubic-is = refl; quad_is = refl; letter-is = inr refl }

-- before the first command the state is as past a Z
past-none : Past fresh_of 0 ClosePath
unfolding control_of meaning_of among
past-none = record { current-is = refl; control-is = refl; cubic-is = refl; quad_is = refl; letter-is = inl refl }

-- ---- the first control

cubic-first : (start : Point) (previous : PathCommand) → cond (is_cubic previous) (mirrored_of (end_of start previous) (control_of start previous)) (end_of start previous) ≡ cubic_first start previous
unfolding mirrored_of add_of sub_of control_of
cubic-first start (MoveTo end) = refl
cubic-first start (LineTo end) = refl
cubic-first start (QuadTo control end) = refl
cubic-first start (CubicTo control1 control2 end) = refl
cubic-first start (ArcTo radii rotation large sweep end) = refl
cubic-first start ClosePath = refl

quad-first : (start : Point) (previous : PathCommand) → cond (is_quad previous) (mirrored_of (end_of start previous) (control_of start previous)) (end_of start previous) ≡ quad_first start previous
unfolding mirrored_of add_of sub_of control_of
quad-first start (MoveTo end) = refl
quad-first start (LineTo end) = refl
quad-first start (QuadTo control end) = refl
quad-first start (CubicTo control1 control2 end) = refl
quad-first start (ArcTo radii rotation large sweep end) = refl
quad-first start ClosePath = refl

module _ (reader : Reader) (last : ℕ) (previous : PathCommand) (k : Past reader last previous) where
  first-cubic : first_control_of SmoothCubic reader.letter reader.current reader.control ≡ cubic_first reader.start previous
  unfolding first_control_of takes_up_of
  first-cubic = rw (k.cubic-is, k.current-is, k.control-is) (cubic-first reader.start previous)

  first-quad : first_control_of SmoothQuad reader.letter reader.current reader.control ≡ quad_first reader.start previous
  unfolding first_control_of takes_up_of
  first-quad = rw (k.quad_is, k.current-is, k.control-is) (quad-first reader.start previous)

-- ---- the step

Good : Reader → PathCommand → ℕ → Step → Type 0
Good reader previous letter (Ok (Some step)) =
    Follows reader.start previous letter step.command × Past step.next letter step.command × (step.next.start ≡ start_of reader.start step.command)
Good reader previous letter (Ok None) = Unit
Good reader previous letter (Err reason) = Unit

module _ (text : List ℕ) (reader : Reader) (offset last : ℕ) (previous : PathCommand) (k : Past reader last previous) where
  taken-good :
      (kind : Kind) (letter own : ℕ) → own ≡ letter → Same kind (meaning_of letter) → (group : Result Group Refusal)
      → Made kind (first_control_of kind reader.letter reader.current reader.control) group
      → Good reader previous letter (and_then group (λ group. Ok (Some (taken own offset reader.start group))))
  unfolding Good Made SmoothFrom
  taken-good kind letter own o s (Ok group) m =
      let cubic : of_kind draws_cubic (meaning_of letter) ≡ is_cubic group.command = s.cubic ∙ m.0 in
      let quad : of_kind draws_quad (meaning_of letter) ≡ is_quad group.command = s.quad ∙ m.1 in (
        record {
          smooth_cubic = λ h. from-cubic kind (s.smooth_cubic (s-means letter h)) m.2;
          smooth_quad = λ h. from-quad kind (s.smooth_quad (t-means letter h)) m.2;
          cubic = cubic;
          quad = quad;
        },
        subst (λ (l : ℕ). Past (after_of group.command group.next l offset reader.start) letter group.command) (sym o) (past_after group.next letter offset reader.start group.command cubic quad),
        after-start group.next own offset reader.start group.command,
      )
    where
      from-cubic : (kind : Kind) → kind ≡ SmoothCubic → SmoothFrom kind (first_control_of kind reader.letter reader.current reader.control) group.command → CubicFrom (cubic_first reader.start previous) group.command
      from-cubic kind e m =
          let f : CubicFrom (first_control_of SmoothCubic reader.letter reader.current reader.control) group.command =
          subst (λ (x : Kind). SmoothFrom x (first_control_of x reader.letter reader.current reader.control) group.command) e m in
          subst (λ (p : Point). CubicFrom p group.command) (first-cubic reader last previous k) f

      from-quad : (kind : Kind) → kind ≡ SmoothQuad → SmoothFrom kind (first_control_of kind reader.letter reader.current reader.control) group.command → QuadFrom (quad_first reader.start previous) group.command
      from-quad kind e m =
          let f : QuadFrom (first_control_of SmoothQuad reader.letter reader.current reader.control) group.command =
          subst (λ (x : Kind). SmoothFrom x (first_control_of x reader.letter reader.current reader.control) group.command) e m in
          subst (λ (p : Point). QuadFrom p group.command) (first-quad reader last previous k) f
  taken-good kind letter own o s (Err reason) m = tt

  closed-good : (next letter : ℕ) → meaning_of letter ≡ Closes → Good reader previous letter (Ok (Some (stepped_to ClosePath (after_of ClosePath next reader.letter offset reader.start))))
  unfolding Good after_of control_of meaning_of among
  closed-good next letter e = (
    record {
      smooth_cubic = λ h. let s = s-means letter h in let z : ◌≡◌ {A = ℕ} 0 1 = cc in absurd (omega arith);
      smooth_quad = λ h. let s = t-means letter h in let z : ◌≡◌ {A = ℕ} 0 1 = cc in absurd (omega arith);
      cubic = rw e;
      quad = rw e;
    },
    past-closed,
    after-start next reader.letter offset reader.start ClosePath,
  )
    where
      past-closed : Past (after_of ClosePath next reader.letter offset reader.start) letter ClosePath
      past-closed = record { current-is = refl; control-is = refl; cubic-is = refl; quad_is = refl; letter-is = inr refl }

  stepped-good : (letter : ℕ) (due : Result Due Refusal) → Born letter due → Good reader previous letter (and_then due (stepped text reader offset))
  unfolding Born Good
  stepped-good letter (Ok Done) b = tt
  stepped-good letter (Err reason) b = tt
  stepped-good letter (Ok (Close next)) b = closed-good next letter b
  stepped-good letter (Ok (GroupDue kind own first)) b =
      let relative = is_relative_of own reader.placed in
      let control = first_control_of kind reader.letter reader.current reader.control in
      taken-good kind letter own b.0 b.1 (read_group_of text first kind relative reader.current control) (group-made text first relative reader.current control kind)

module _ (text : List ℕ) (reader : Reader) (last : ℕ) (previous : PathCommand) (k : Past reader last previous) where
  step-good : Good reader previous (made_by text reader.at last) (read_step_of text reader)
  unfolding read_step_of
  step-good =
      stepped-good text reader (offset_of text reader) last previous k (made_by text reader.at last) (next_due_of text reader.at reader.letter reader.placed)
      (due-born text reader.at reader.letter last reader.placed k.letter-is)

-- ---- the text

module _ (text : List ℕ) where
  smooth-from : (steps : ℕ) (reader : Reader) (last : ℕ) (previous : PathCommand) → Past reader last previous → Smooth reader.start previous (entries_beginning steps text last reader)
  unfolding entries_beginning Good
  smooth-from zero reader last previous k = tt
  smooth-from (suc steps) reader last previous k = by-step (smooth-from steps) (made_by text reader.at last) (read_step_of text reader) (step-good text reader last previous k)
    where
      by-step :
          ((next : Reader) (letter : ℕ) (command : PathCommand) → Past next letter command → Smooth next.start command (entries_beginning steps text letter next))
          → (letter : ℕ) (step : Step) → Good reader previous letter step → Smooth reader.start previous (entered (entries_beginning steps text) letter step)
      by-step rest letter (Ok (Some step)) g =
          (g.0, subst (λ (p : Point). Smooth p step.command (entries_beginning steps text letter step.next)) g.2 (rest step.next letter step.command g.1))
      by-step rest letter (Ok None) g = tt
      by-step rest letter (Err reason) g = tt

  -- the entries are the text's commands
  entered-after :
      (rest : Outcome) (entries : List Entry) (letter : ℕ) (command : PathCommand) (list : List PathCommand)
      → ((more : List PathCommand) → rest ≡ commands more → commands_in entries ≡ more)
      → prepend command rest ≡ commands list
      → commands_in (record { letter = letter; command = command } ∷ entries) ≡ list
  entered-after (commands more) entries letter command list f e = ap (λ (l : List PathCommand). command ∷ l) (f more refl) ∙ (let g : command ∷ more ≡ list = cc in g)
  entered-after (refusal reason) entries letter command list f e = let z : ◌≡◌ {A = ℕ} 0 1 = cc in absurd (omega arith)

  entries_from : (steps last : ℕ) (reader : Reader) (list : List PathCommand) → read_from steps text reader ≡ commands list → commands_in (entries_beginning steps text last reader) ≡ list
  unfolding read_from entries_beginning
  entries_from zero last reader list e = let f : [] ≡ list = cc in f
  entries_from (suc steps) last reader list e = by-step (entries_from steps) (made_by text reader.at last) (read_step_of text reader) e
    where
      by-step :
          ((letter : ℕ) (next : Reader) (more : List PathCommand) → read_from steps text next ≡ commands more → commands_in (entries_beginning steps text letter next) ≡ more)
          → (letter : ℕ) (step : Step) → follow (read_from steps text) step ≡ commands list → commands_in (entered (entries_beginning steps text) letter step) ≡ list
      by-step rest letter (Ok (Some step)) e = entered-after (read_from steps text step.next) (entries_beginning steps text letter step.next) letter step.command list (rest letter step.next) e
      by-step rest letter (Ok None) e = let f : [] ≡ list = cc in f
      by-step rest letter (Err reason) e = let z : ◌≡◌ {A = ℕ} 0 1 = cc in absurd (omega arith)

  -- of any text that reads: its commands, each with its letter, follow one another as SVG 1.1 has it. Before the first there is the origin, as past
  -- a Z; an S or T that comes first is refused
  pub smooth-read : (list : List PathCommand) → commands_of text ≡ commands list → (commands_in (entries_of text) ≡ list) × Smooth origin ClosePath (entries_of text)
  unfolding commands_of entries_of
  smooth-read list e = (entries_from (suc (length text)) 0 fresh_of list e, smooth-from (suc (length text)) fresh_of 0 ClosePath past-none)
