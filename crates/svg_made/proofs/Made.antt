-- Of any text that reads, each command is made by the meaning of its letter, of the nearest values of the numbers after it, from where the command before it ends. Assumes nothing.
use Prim.Native.Nat.{ℕ, zero, suc, ◌+◌, ◌≤◌, ◌<◌}
use mathlib.Core.Path.{◌≡◌, refl, sym, ap, subst, ◌∙◌}
use mathlib.Core.Bool.{Bool, true, false, ◌&&◌, cond}
use mathlib.Core.List.{List}
use mathlib.Core.Logic.{◌⊎◌, inl, inr}
use native.Mathlib.Omega.{arith}
use borrow.Author.Tests.{eqb-true, ltb-false}
use lib.Dec.{eqb, ltb, leb}
use lib.Ieee.{Float}
use lib.ListN.{length, get_or}
use Rattle.std.specs.Prelude.{Some, None, Result, Ok, Err}
use Rattle.answers.specs.declared.refusals.Refusal.{Refusal}
use Rattle.answers.specs.declared.refusals.Refusal.TheVariants.{UnexpectedEnd, ExpectedFlag}
use Rattle.scan.specs.Bytes.{among, number_starts, separators}
use Rattle.scan.specs.Runs.{past_separators_of}
use Rattle.scan.proofs.RunLaws.{all-onward}
use Rattle.decimal.specs.Decimal.{number_of}
use Rattle.decimal.specs.declared.numbers.Read.{Read}
use Rattle.decimal_nearest.proofs.Texts.{number-nearest}
use Rattle.math.specs.Math.{add_of}
use Rattle.math.specs.declared.points.Point.{Point}
use Rattle.commands.specs.declared.command.PathCommand.{PathCommand}
use Rattle.commands.specs.declared.command.PathCommand.TheVariants.{MoveTo, LineTo, QuadTo, CubicTo, ArcTo, ClosePath}
use Rattle.svg_group.specs.Letters.{is_letter_of, meaning_of}
use Rattle.svg_group.specs.Numbers.{and_then, read_number_of, flag_at, flag_standing, read_flag_of, flags_at, read_flags_of, moved_of, pair_at, point_of, read_pair_of}
use Rattle.svg_group.specs.Groups.{along, read_move_of, read_line_of, read_horizontal_of, read_vertical_of, read_cubic_of, read_smooth_cubic_of, read_quad_of, read_smooth_quad_of, read_arc_of, read_group_of}
use Rattle.svg_group.specs.declared.letters.Kind.{Kind}
use Rattle.svg_group.specs.declared.letters.Kind.TheVariants.{Move, Line, Horizontal, Vertical, Cubic, SmoothCubic, Quad, SmoothQuad, Arc}
use Rattle.svg_group.specs.declared.letters.Letter.{Letter}
use Rattle.svg_group.specs.declared.letters.Letter.TheVariants.{Draws, Closes, Unknown}
use Rattle.svg_group.specs.declared.groups.Group.{Group}
use Rattle.svg_group.specs.declared.numbers.Flag.{Flag}
use Rattle.svg_group.specs.declared.numbers.Flags.{Flags}
use Rattle.svg_group.specs.declared.numbers.Coordinates.{Coordinates}
use Rattle.svg_group.proofs.Thens.{then-elim}
use Rattle.svg_step.specs.Steps.{origin, fresh_of, is_relative_of, needs_point_of, repeated_of, first_control_of}
use Rattle.svg_step.specs.Steps.{after_of, due_group_of, begun, due_letter_of, again, due_again_of, due_at_of, next_due_of, offset_of, taken, Step, stepped, read_step_of}
use Rattle.svg_step.specs.declared.steps.Reader.{Reader}
use Rattle.svg_step.specs.declared.steps.Due.{Due}
use Rattle.svg_step.specs.declared.steps.Due.TheVariants.{Done, Close, Group as GroupDue}
use Rattle.svg_step.proofs.Ahead.{step-ahead}
use Rattle.svg.specs.Texts.{Outcome, commands, refusal, prepend, follow, read_from, commands_of}
use Rattle.svg.specs.Smooth.{Entry, made_by, entered, entries_beginning, entries_of, end_of, start_of}
use Rattle.svg_made.specs.Made.{NumberFrom, shifted, PairFrom, FlagFrom, Drawn, ByMeaning, Makes, Reads}

clash : {A : Type 0} → ◌≡◌ {A = ℕ} 0 1 → A
clash e = absurd (omega (arith, e))

-- ---- numbers, pairs and flags

module _ (text : List ℕ) where
  number-made : (at : ℕ) (v : Read) → read_number_of text at ≡ Ok v → NumberFrom text at v.value v.end
  unfolding read_number_of
  number-made at v = go (ltb (past_separators_of text at) (length text))
    where
      go : (b : Bool) → cond b (number_of text (past_separators_of text at)) (Err (UnexpectedEnd (length text))) ≡ Ok v → NumberFrom text at v.value v.end
      go true e = number-nearest text (past_separators_of text at) v.value v.end e
      go false e = let z : ◌≡◌ {A = ℕ} 0 1 = cc in clash z

  moved : (relative : Bool) (current point : Point) → moved_of relative current point ≡ record { x = shifted relative current.x point.x; y = shifted relative current.y point.y }
  unfolding moved_of add_of
  moved true current point = refl
  moved false current point = refl

  pair_made : (at : ℕ) (relative : Bool) (current : Point) (v : Coordinates) → read_pair_of text at relative current ≡ Ok v → PairFrom text at relative current (point_of v) v.next
  unfolding read_pair_of
  pair_made at relative current v =
      then-elim P (read_number_of text at) _ (λ r e. let z : ◌≡◌ {A = ℕ} 0 1 = cc in clash z) (λ x p.
      then-elim P (read_number_of text x.end) _ (λ r e. let z : ◌≡◌ {A = ℕ} 0 1 = cc in clash z) (λ y q e. made x y p q e))
    where
      P : Result Coordinates Refusal → Type 0
      P pair = pair ≡ Ok v → PairFrom text at relative current (point_of v) v.next

      made : (x y : Read) → read_number_of text at ≡ Ok x → read_number_of text x.end ≡ Ok y
          → ◌≡◌ {A = Result Coordinates Refusal} (Ok (pair_at (moved_of relative current (record { x = x.value; y = y.value })) y.end)) (Ok v) → PairFrom text at relative current (point_of v) v.next
      made x y p q e =
          let same : pair_at (moved_of relative current (record { x = x.value; y = y.value })) y.end ≡ v = cc in
          record {
            x = x.value;
            y = y.value;
            between = x.end;
            first = number-made at x p;
            second = subst (NumberFrom text x.end y.value) (ap (λ (c : Coordinates). c.next) same) (number-made x.end y q);
            is =
                sym (ap point_of same)
                ∙ ap (λ (m : Point). point_of (pair_at m y.end)) (moved relative current (record { x = x.value; y = y.value }));
          }

  flag-made : (at : ℕ) (v : Flag) → read_flag_of text at ≡ Ok v → FlagFrom text at v.set v.next
  unfolding read_flag_of flag_standing
  flag-made at v = inside (ltb start (length text))
    where
      start : ℕ
      start = past_separators_of text at

      byte : ℕ
      byte = get_or text start 0

      stood : (set : Bool) → byte ≡ cond set 49 48 → ◌≡◌ {A = Result Flag Refusal} (Ok (flag_at set (start + 1))) (Ok v) → FlagFrom text at v.set v.next
      stood set f e =
          let same : flag_at set (start + 1) ≡ v = cc in
          record { stands = f ∙ ap (λ (w : Flag). cond w.set 49 48) same; ends = sym (ap (λ (w : Flag). w.next) same) }

      one : (b : Bool) → eqb byte 49 ≡ b → cond b (Ok (flag_at true (start + 1))) (Err (ExpectedFlag start)) ≡ Ok v → FlagFrom text at v.set v.next
      one true f e = stood true (eqb-true byte 49 f) e
      one false f e = let z : ◌≡◌ {A = ℕ} 0 1 = cc in clash z

      zero_or : (b : Bool) → eqb byte 48 ≡ b → cond b (Ok (flag_at false (start + 1))) (cond (eqb byte 49) (Ok (flag_at true (start + 1))) (Err (ExpectedFlag start))) ≡ Ok v
          → FlagFrom text at v.set v.next
      zero_or true f e = stood false (eqb-true byte 48 f) e
      zero_or false f e = one (eqb byte 49) refl e

      inside : (b : Bool)
          → cond b (cond (eqb byte 48) (Ok (flag_at false (start + 1))) (cond (eqb byte 49) (Ok (flag_at true (start + 1))) (Err (ExpectedFlag start)))) (Err (UnexpectedEnd (length text))) ≡ Ok v
          → FlagFrom text at v.set v.next
      inside true e = zero_or (eqb byte 48) refl e
      inside false e = let z : ◌≡◌ {A = ℕ} 0 1 = cc in clash z

  flags-made : (at : ℕ) (v : Flags) → read_flags_of text at ≡ Ok v → (between : ℕ) × FlagFrom text at v.large between × FlagFrom text between v.sweep v.next
  unfolding read_flags_of
  flags-made at v =
      then-elim P (read_flag_of text at) _ (λ r e. let z : ◌≡◌ {A = ℕ} 0 1 = cc in clash z) (λ large p.
      then-elim P (read_flag_of text large.next) _ (λ r e. let z : ◌≡◌ {A = ℕ} 0 1 = cc in clash z) (λ sweep q e. made large sweep p q e))
    where
      P : Result Flags Refusal → Type 0
      P flags = flags ≡ Ok v → (between : ℕ) × FlagFrom text at v.large between × FlagFrom text between v.sweep v.next

      made : (large sweep : Flag) → read_flag_of text at ≡ Ok large → read_flag_of text large.next ≡ Ok sweep → ◌≡◌ {A = Result Flags Refusal} (Ok (flags_at large.set sweep.set sweep.next)) (Ok v)
          → (between : ℕ) × FlagFrom text at v.large between × FlagFrom text between v.sweep v.next
      made large sweep p q e =
          let same : flags_at large.set sweep.set sweep.next ≡ v = cc in (
            large.next,
            subst (λ (w : Flags). FlagFrom text at w.large large.next) same (flag-made at large p),
            subst (λ (w : Flags). FlagFrom text large.next w.sweep w.next) same (flag-made large.next sweep q),
          )

-- ---- a group

-- an M alone has another kind where it repeats
is_move : Kind → Bool
is_move Move = true
is_move Line = false
is_move Horizontal = false
is_move Vertical = false
is_move Cubic = false
is_move SmoothCubic = false
is_move Quad = false
is_move SmoothQuad = false
is_move Arc = false

module _ (text : List ℕ) (at : ℕ) (relative : Bool) (current : Point) where
  Draw : Bool → Kind → Result Group Refusal → Type 0
  Draw own kind (Ok group) = Drawn text at own relative current kind group.command group.next
  Draw own kind (Err reason) = Unit

  -- the coordinate that H and V give
  along-is : (from value : Float) → along relative from value ≡ shifted relative from value
  along-is from value = by relative
    where
      by : (b : Bool) → along b from value ≡ shifted b from value
      by true = refl
      by false = refl

  pair-from : (from : ℕ) (v : Coordinates) → read_pair_of text from relative current ≡ Ok v → PairFrom text from relative current (point_of v) v.next
  pair-from from = pair_made text from relative current

  module _ (first : Point) where
    plain-drawn : (own : Bool) (kind : Kind) → is_move kind ≡ false → Draw own kind (read_group_of text at kind relative current first)
    unfolding is_move read_group_of read_line_of read_horizontal_of read_vertical_of read_cubic_of read_smooth_cubic_of read_quad_of read_smooth_quad_of read_arc_of Draw
    plain-drawn own Move never = let z : ◌≡◌ {A = ℕ} 0 1 = cc in clash z
    plain-drawn own Line never = then-elim (Draw own Line) (read_pair_of text at relative current) _ (λ r. tt) (λ end p. (point_of end, pair-from at end p, refl))
    plain-drawn own Horizontal never =
        then-elim (Draw own Horizontal) (read_number_of text at) _ (λ r. tt) (λ x p.
        (x.value, number-made text at x p, ap (λ (z : Float). LineTo (record { x = z; y = current.y })) (along-is current.x x.value)))
    plain-drawn own Vertical never =
        then-elim (Draw own Vertical) (read_number_of text at) _ (λ r. tt) (λ y p.
        (y.value, number-made text at y p, ap (λ (z : Float). LineTo (record { x = current.x; y = z })) (along-is current.y y.value)))
    plain-drawn own Cubic never =
        then-elim (Draw own Cubic) (read_pair_of text at relative current) _ (λ r. tt) (λ a p.
        then-elim (Draw own Cubic) (read_pair_of text a.next relative current) _ (λ r. tt) (λ b q.
        then-elim (Draw own Cubic) (read_pair_of text b.next relative current) _ (λ r. tt) (λ end s.
        (point_of a, point_of b, point_of end, a.next, pair-from at a p, record { between = b.next; first = pair-from a.next b q; second = pair-from b.next end s }, refl))))
    plain-drawn own SmoothCubic never =
        then-elim (Draw own SmoothCubic) (read_pair_of text at relative current) _ (λ r. tt) (λ b q.
        then-elim (Draw own SmoothCubic) (read_pair_of text b.next relative current) _ (λ r. tt) (λ end s.
        (first, point_of b, point_of end, record { between = b.next; first = pair-from at b q; second = pair-from b.next end s }, refl)))
    plain-drawn own Quad never =
        then-elim (Draw own Quad) (read_pair_of text at relative current) _ (λ r. tt) (λ b q.
        then-elim (Draw own Quad) (read_pair_of text b.next relative current) _ (λ r. tt) (λ end s.
        (point_of b, point_of end, record { between = b.next; first = pair-from at b q; second = pair-from b.next end s }, refl)))
    plain-drawn own SmoothQuad never = then-elim (Draw own SmoothQuad) (read_pair_of text at relative current) _ (λ r. tt) (λ end p. (first, point_of end, pair-from at end p, refl))
    plain-drawn own Arc never =
        then-elim (Draw own Arc) (read_pair_of text at false current) _ (λ r. tt) (λ radii p.
        then-elim (Draw own Arc) (read_number_of text radii.next) _ (λ r. tt) (λ rotation q.
        then-elim (Draw own Arc) (read_flags_of text rotation.end) _ (λ r. tt) (λ flags s.
        then-elim (Draw own Arc) (read_pair_of text flags.next relative current) _ (λ r. tt) (λ end t.
        let f = flags-made text rotation.end flags s in
        record {
          radii = point_of radii;
          rotation = rotation.value;
          large = flags.large;
          sweep = flags.sweep;
          end = point_of end;
          second = radii.next;
          third = rotation.end;
          fourth = f.0;
          fifth = flags.next;
          radii-from = pair_made text at false current radii p;
          rotation-from = number-made text radii.next rotation q;
          large-from = f.1;
          sweep-from = f.2;
          end-from = pair-from flags.next end t;
          is = refl;
        }))))

    own-drawn : (kind : Kind) → Draw true kind (read_group_of text at kind relative current first)
    unfolding is_move read_group_of read_move_of Draw
    own-drawn Move = then-elim (Draw true Move) (read_pair_of text at relative current) _ (λ r. tt) (λ end p. (point_of end, pair-from at end p, refl))
    own-drawn Line = plain-drawn true Line refl
    own-drawn Horizontal = plain-drawn true Horizontal refl
    own-drawn Vertical = plain-drawn true Vertical refl
    own-drawn Cubic = plain-drawn true Cubic refl
    own-drawn SmoothCubic = plain-drawn true SmoothCubic refl
    own-drawn Quad = plain-drawn true Quad refl
    own-drawn SmoothQuad = plain-drawn true SmoothQuad refl
    own-drawn Arc = plain-drawn true Arc refl

    -- a further group of an M is a line; every other kind repeats as it is
    further-drawn : (kind : Kind) → Draw false kind (read_group_of text at (repeated_of kind) relative current first)
    unfolding is_move read_group_of read_line_of repeated_of Draw
    further-drawn Move = then-elim (Draw false Move) (read_pair_of text at relative current) _ (λ r. tt) (λ end p. (point_of end, pair-from at end p, refl))
    further-drawn Line = plain-drawn false Line refl
    further-drawn Horizontal = plain-drawn false Horizontal refl
    further-drawn Vertical = plain-drawn false Vertical refl
    further-drawn Cubic = plain-drawn false Cubic refl
    further-drawn SmoothCubic = plain-drawn false SmoothCubic refl
    further-drawn Quad = plain-drawn false Quad refl
    further-drawn SmoothQuad = plain-drawn false SmoothQuad refl
    further-drawn Arc = plain-drawn false Arc refl

    any-drawn : (own : Bool) (kind : Kind) → Draw own kind (read_group_of text at (cond own kind (repeated_of kind)) relative current first)
    any-drawn true kind = own-drawn kind
    any-drawn false kind = further-drawn kind

-- ---- what is due is due to a letter

cond-elim : (P : Result Due Refusal → Type 0) (b : Bool) (x y : Result Due Refusal) → (b ≡ true → P x) → (b ≡ false → P y) → P (cond b x y)
cond-elim P true x y f g = f refl
cond-elim P false x y f g = g refl

module _ (text : List ℕ) (at : ℕ) where
  -- a group of the letter's own kind, or of the one that it repeats as
  record GroupBorn (own : Bool) (letter : ℕ) (kind : Kind) (from : ℕ) : Type 0 where
    group : Kind
    means : meaning_of letter ≡ Draws group
    kind-is : kind ≡ cond own group (repeated_of group)
    from_is : from ≡ past_separators_of text (cond own (at + 1) at)

  Born : Bool → ℕ → Result Due Refusal → Type 0
  Born own letter (Ok Done) = length text ≤ at
  Born own letter (Err reason) = Unit
  Born own letter (Ok (Close next)) = (own ≡ true) × (meaning_of letter ≡ Closes) × (next ≡ at + 1)
  Born own letter (Ok (GroupDue kind remembered from)) = (remembered ≡ letter) × GroupBorn own letter kind from

  group-born : (own : Bool) (letter : ℕ) (group : Kind) (from : ℕ) → meaning_of letter ≡ Draws group → from ≡ cond own (at + 1) at
      → Born own letter (due_group_of text from (cond own group (repeated_of group)) letter)
  unfolding due_group_of Born
  group-born own letter group from e f =
      cond-elim (Born own letter) (among (get_or text (past_separators_of text from) 0) number_starts) _ _
      (λ s. (refl, record { group = group; means = e; kind-is = refl; from_is = ap (past_separators_of text) f })) (λ s. tt)

  begun-born : (letter : ℕ) (placed : Bool) (meaning : Letter) → meaning_of letter ≡ meaning → Born true letter (begun text at letter placed meaning)
  unfolding Born
  begun-born letter placed (Draws kind) e =
      let t = group-born true letter kind (at + 1) e refl in
      cond-elim (Born true letter) (needs_point_of kind) _ _ (λ n. cond-elim (Born true letter) placed _ _ (λ p. t) (λ p. tt)) (λ n. t)
  begun-born letter placed Closes e = (refl, e, refl)
  begun-born letter placed Unknown e = tt

  again-born : (letter : ℕ) (meaning : Letter) → meaning_of letter ≡ meaning → Born false letter (again text at letter meaning)
  unfolding Born
  again-born letter (Draws kind) e = group-born false letter kind at e refl
  again-born letter Closes e = tt
  again-born letter Unknown e = tt

  -- the remembered letter is that of the last command, unless it is forgotten
  last-born : (letter last : ℕ) → (letter ≡ last) ⊎ (meaning_of letter ≡ Unknown) → Born false last (due_again_of text at letter)
  unfolding due_again_of Born
  last-born letter last (inl e) = subst (λ (l : ℕ). Born false l (due_again_of text at letter)) e (again-born letter (meaning_of letter) refl)
  last-born letter last (inr e) = rw e tt

  either-born : (b : Bool) (byte last : ℕ) (x y : Result Due Refusal) → (b ≡ true → Born true byte x) → (b ≡ false → Born false last y) → Born b (cond b byte last) (cond b x y)
  either-born true byte last x y f g = f refl
  either-born false byte last x y f g = g refl

  due-born : (letter last : ℕ) (placed : Bool) → (letter ≡ last) ⊎ (meaning_of letter ≡ Unknown)
      → Born (is_letter_of (get_or text at 0)) (cond (is_letter_of (get_or text at 0)) (get_or text at 0) last) (due_at_of text at letter placed)
  unfolding due_at_of Born due_letter_of
  due-born letter last placed h =
      let byte = get_or text at 0 in
      cond-elim (Born (is_letter_of byte) (cond (is_letter_of byte) byte last)) (ltb at (length text)) _ (Ok Done)
      (λ e.
      either-born (is_letter_of byte) byte last (due_letter_of text at byte placed) (due_again_of text at letter)
      (λ f. begun-born byte placed (meaning_of byte) refl) (λ f. last-born letter last h))
      (λ e. ltb-false at (length text) e)

-- ---- the step

-- what a command leaves in the state
record Left (command : PathCommand) (letter : ℕ) (start : Point) (next : Reader) : Type 0 where
  placed-is : next.placed ≡ true
  current-is : next.current ≡ end_of start command
  start_is : next.start ≡ start_of start command
  letter-is : (next.letter ≡ letter) ⊎ (meaning_of next.letter ≡ Unknown)

module _ (next letter offset : ℕ) (start : Point) where
  after-left : (command : PathCommand) → Left command letter start (after_of command next letter offset start)
  unfolding after_of meaning_of among
  after-left (MoveTo end) = record { placed-is = refl; current-is = refl; start_is = refl; letter-is = inl refl }
  after-left (LineTo end) = record { placed-is = refl; current-is = refl; start_is = refl; letter-is = inl refl }
  after-left (QuadTo control end) = record { placed-is = refl; current-is = refl; start_is = refl; letter-is = inl refl }
  after-left (CubicTo control1 control2 end) = record { placed-is = refl; current-is = refl; start_is = refl; letter-is = inl refl }
  after-left (ArcTo radii rotation large sweep end) = record { placed-is = refl; current-is = refl; start_is = refl; letter-is = inl refl }
  after-left ClosePath = record { placed-is = refl; current-is = refl; start_is = refl; letter-is = inr refl }

  after-at : (command : PathCommand) → (after_of command next letter offset start).at ≡ next
  unfolding after_of
  after-at (MoveTo end) = refl
  after-at (LineTo end) = refl
  after-at (QuadTo control end) = refl
  after-at (CubicTo control1 control2 end) = refl
  after-at (ArcTo radii rotation large sweep end) = refl
  after-at ClosePath = refl

  -- Z forgets, whatever was remembered
  closed-left : (other : ℕ) → Left ClosePath other start (after_of ClosePath next letter offset start)
  unfolding after_of meaning_of among
  closed-left other = record { placed-is = refl; current-is = refl; start_is = refl; letter-is = inr refl }

module _ (text : List ℕ) (reader : Reader) (last : ℕ) where
  abbrev at : ℕ
  at = past_separators_of text reader.at

  abbrev own : Bool
  own = is_letter_of (get_or text (past_separators_of text reader.at) 0)

  abbrev letter : ℕ
  letter = made_by text reader.at last

  Good : Step → Type 0
  Good (Ok (Some step)) = Makes text reader.at last reader.placed reader.current letter step.command step.next.at × Left step.command letter reader.start step.next
  Good (Ok None) = length text ≤ at
  Good (Err reason) = Unit

  made_at : (command : PathCommand) (next to : ℕ) → to ≡ next → ByMeaning text at own letter reader.placed reader.current command next (meaning_of letter)
      → Makes text reader.at last reader.placed reader.current letter command to
  made_at command next to e m =
      record { letter-is = refl; made = subst (λ (n : ℕ). ByMeaning text at own letter reader.placed reader.current command n (meaning_of letter)) (sym e) m }

  taken-good : (offset remembered : ℕ) (kind : Kind) (from : ℕ) → remembered ≡ letter → GroupBorn text at own letter kind from → (group : Result Group Refusal)
      → group ≡ read_group_of text from kind (is_relative_of remembered reader.placed) reader.current (first_control_of kind reader.letter reader.current reader.control)
      → Good (and_then group (λ group. Ok (Some (taken remembered offset reader.start group))))
  unfolding Good is_relative_of Draw
  taken-good offset remembered kind from same born (Ok group) e =
      let place = past_separators_of text (cond own (at + 1) at) in
      let relative = leb 97 letter && reader.placed in
      let control = first_control_of kind reader.letter reader.current reader.control in
      let d : Draw text place relative reader.current own born.group (read_group_of text place (cond own born.group (repeated_of born.group)) relative reader.current control) =
      any-drawn text place relative reader.current control own born.group in
      let f : Draw text place relative reader.current own born.group (Ok group) =
      subst (Draw text place relative reader.current own born.group)
      (sym (e ∙ ap (λ (n : ℕ). read_group_of text n kind (leb 97 remembered && reader.placed) reader.current control) born.from_is
      ∙ ap (λ (n : ℕ). read_group_of text place kind (leb 97 n && reader.placed) reader.current control) same
      ∙ ap (λ (k : Kind). read_group_of text place k relative reader.current control) born.kind-is)) d in (
        made_at group.command group.next _ (after-at group.next remembered offset reader.start group.command)
            (subst (ByMeaning text at own letter reader.placed reader.current group.command group.next) (sym born.means) f),
        subst (λ (l : ℕ). Left group.command letter reader.start (after_of group.command group.next l offset reader.start)) (sym same) (after-left group.next letter offset reader.start group.command),
      )
  taken-good offset remembered kind from same born (Err reason) e = tt

  due-good : (offset : ℕ) (due : Result Due Refusal) → Born text at own letter due → Good (and_then due (stepped text reader offset))
  unfolding Good Born
  due-good offset (Ok Done) born = born
  due-good offset (Err reason) born = tt
  due-good offset (Ok (Close next)) born = (
    made_at ClosePath next _ (after-at next reader.letter offset reader.start ClosePath)
        (subst (ByMeaning text at own letter reader.placed reader.current ClosePath next) (sym born.1) (born.0, refl, born.2)),
    closed-left next reader.letter offset reader.start letter,
  )
  due-good offset (Ok (GroupDue kind remembered from)) born = taken-good offset remembered kind from born.0 born.1 _ refl

  step-good : (reader.letter ≡ last) ⊎ (meaning_of reader.letter ≡ Unknown) → Good (read_step_of text reader)
  unfolding read_step_of next_due_of
  step-good h = due-good (offset_of text reader) (due_at_of text at reader.letter reader.placed) (due-born text at reader.letter last reader.placed h)

-- ---- the text

module _ (text : List ℕ) where
  -- what is read on from a command, of a text that reads
  read-on : (command : PathCommand) (o : Outcome) (list : List PathCommand) → prepend command o ≡ commands list → (more : List PathCommand) × (o ≡ commands more)
  read-on command (commands more) list e = (more, refl)
  read-on command (refusal reason) list e = let z : ◌≡◌ {A = ℕ} 0 1 = cc in clash z

  same-state : (from letter : ℕ) (entries : List Entry) {p q : Bool} {a b c d : Point} → p ≡ q → a ≡ b → c ≡ d → Reads text from letter p a c entries → Reads text from letter q b d entries
  same-state from letter entries {p} {q} {a} {b} {c} {d} e f g r =
      subst (λ (x : Bool). Reads text from letter x b d entries) e
      (subst (λ (x : Point). Reads text from letter p x d entries) f (subst (λ (x : Point). Reads text from letter p a x entries) g r))

  reads-from : (steps : ℕ) (reader : Reader) (last : ℕ) (list : List PathCommand) → length text < reader.at + steps → (reader.letter ≡ last) ⊎ (meaning_of reader.letter ≡ Unknown)
      → read_from steps text reader ≡ commands list
      → Reads text reader.at last reader.placed reader.current reader.start (entries_beginning steps text last reader)
  unfolding read_from entries_beginning Good
  reads-from zero reader last list enough h e = omega (arith, all-onward separators text reader.at)
  reads-from (suc steps) reader last list enough h e = by-step (reads-from steps) (read_step_of text reader) refl (step-good text reader last h) e
    where
      by-step :
          ((next : Reader) (letter : ℕ) (more : List PathCommand) → length text < next.at + steps → (next.letter ≡ letter) ⊎ (meaning_of next.letter ≡ Unknown)
          → read_from steps text next ≡ commands more
          → Reads text next.at letter next.placed next.current next.start (entries_beginning steps text letter next))
          → (step : Step) → read_step_of text reader ≡ step → Good text reader last step → follow (read_from steps text) step ≡ commands list
          → Reads text reader.at last reader.placed reader.current reader.start (entered (entries_beginning steps text) (made_by text reader.at last) step)
      by-step rest (Ok (Some step)) s g f =
          let left = g.1 in
          let more = read-on step.command (read_from steps text step.next) list f in
          let on = rest step.next (made_by text reader.at last) more.0 (omega (arith, (step-ahead text reader step s).0)) left.letter-is more.1 in
          (step.next.at, g.0, same-state step.next.at (made_by text reader.at last) (entries_beginning steps text (made_by text reader.at last) step.next) left.placed-is left.current-is left.start_is on)
      by-step rest (Ok None) s g f = g
      by-step rest (Err reason) s g f = let z : ◌≡◌ {A = ℕ} 0 1 = cc in clash z

  -- of any text that reads
  pub reads : (list : List PathCommand) → commands_of text ≡ commands list → Reads text 0 0 false origin origin (entries_of text)
  unfolding commands_of entries_of
  reads list e = reads-from (suc (length text)) fresh_of 0 list (omega arith) (inl refl) e
