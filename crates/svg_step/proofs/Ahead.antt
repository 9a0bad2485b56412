-- A step that gives a command passes a byte of the text, and one that refuses stands within it. Assumes nothing.
use Prim.Native.Nat.{ℕ, ◌+◌, ◌≤◌, ◌<◌}
use mathlib.Core.Path.{◌≡◌, refl, subst}
use mathlib.Core.Bool.{Bool, true, false, cond}
use mathlib.Core.List.{List}
use native.Mathlib.Omega.{arith}
use borrow.Author.Tests.{ltb-true}
use lib.Dec.{ltb}
use lib.ListN.{length, get_or}
use Rattle.std.specs.Prelude.{Option, Some, None, Result, Ok, Err}
use Rattle.answers.specs.declared.refusals.Refusal.{Refusal}
use Rattle.scan.specs.Bytes.{among, separators, number_starts}
use Rattle.scan.specs.Runs.{past_separators_of}
use Rattle.scan.proofs.RunLaws.{all-onward}
use Rattle.math.specs.declared.points.Point.{Point}
use Rattle.commands.specs.declared.command.PathCommand.{PathCommand}
use Rattle.commands.specs.declared.command.PathCommand.TheVariants.{MoveTo, LineTo, QuadTo, CubicTo, ArcTo, ClosePath}
use Rattle.svg_group.specs.Numbers.{and_then}
use Rattle.svg_group.specs.Letters.{is_letter_of, meaning_of}
use Rattle.svg_group.specs.Groups.{read_group_of}
use Rattle.svg_group.specs.declared.letters.Kind.{Kind}
use Rattle.svg_group.specs.declared.letters.Letter.{Letter}
use Rattle.svg_group.specs.declared.letters.Letter.TheVariants.{Draws, Closes, Unknown}
use Rattle.svg_group.specs.declared.groups.Group.{Group}
use Rattle.svg_group.proofs.Ahead.{group-ahead}
use Rattle.svg_step.specs.Steps.{is_relative_of, first_control_of, needs_point_of, repeated_of, after_of, due_group_of, begun, due_letter_of, again, due_again_of, due_at_of, next_due_of, offset_of, taken, stepped, read_step_of}
use Rattle.svg_step.specs.declared.steps.Reader.{Reader}
use Rattle.svg_step.specs.declared.steps.Due.{Due}
use Rattle.svg_step.specs.declared.steps.Due.TheVariants.{Done, Close, Group as GroupDue}
use Rattle.svg_step.specs.declared.steps.Stepped.{Stepped}

cond-elim : (P : Result Due Refusal → Type 0) (b : Bool) (x y : Result Due Refusal) → (b ≡ true → P x) → (b ≡ false → P y) → P (cond b x y)
cond-elim P true x y f g = f refl
cond-elim P false x y f g = g refl

-- ---- the state after a command

-- it stands where the command ends, and there is a current point
pub after-at : (command : PathCommand) (next letter offset : ℕ) (start : Point) → (after_of command next letter offset start).at ≡ next
unfolding after_of
after-at (MoveTo end) next letter offset start = refl
after-at (LineTo end) next letter offset start = refl
after-at (QuadTo control end) next letter offset start = refl
after-at (CubicTo control1 control2 end) next letter offset start = refl
after-at (ArcTo radii rotation large sweep end) next letter offset start = refl
after-at ClosePath next letter offset start = refl

pub after-placed : (command : PathCommand) (next letter offset : ℕ) (start : Point) → (after_of command next letter offset start).placed ≡ true
unfolding after_of
after-placed (MoveTo end) next letter offset start = refl
after-placed (LineTo end) next letter offset start = refl
after-placed (QuadTo control end) next letter offset start = refl
after-placed (CubicTo control1 control2 end) next letter offset start = refl
after-placed (ArcTo radii rotation large sweep end) next letter offset start = refl
after-placed ClosePath next letter offset start = refl

-- ---- what is due stands further on

Onward : ℕ → Result Due Refusal → Type 0
Onward p (Ok Done) = Unit
Onward p (Err reason) = Unit
Onward p (Ok (Close next)) = p < next
Onward p (Ok (GroupDue kind letter first)) = p ≤ first

onward-le : (p q : ℕ) (due : Result Due Refusal) → p ≤ q → Onward q due → Onward p due
unfolding Onward
onward-le p q (Ok Done) h k = tt
onward-le p q (Err reason) h k = tt
onward-le p q (Ok (Close next)) h k = omega arith
onward-le p q (Ok (GroupDue kind letter first)) h k = omega arith

module _ (text : List ℕ) where
  group-onward : (at : ℕ) (kind : Kind) (letter : ℕ) → Onward at (due_group_of text at kind letter)
  unfolding due_group_of Onward
  group-onward at kind letter =
      cond-elim (Onward at) (among (get_or text (past_separators_of text at) 0) number_starts) _ _ (λ e. all-onward separators text at) (λ e. tt)

  begun-onward : (at letter : ℕ) (placed : Bool) (meaning : Letter) → Onward at (begun text at letter placed meaning)
  unfolding Onward
  begun-onward at letter placed (Draws kind) =
      let t = onward-le at (at + 1) (due_group_of text (at + 1) kind letter) (omega arith) (group-onward (at + 1) kind letter) in
      cond-elim (Onward at) (needs_point_of kind) _ _ (λ e. cond-elim (Onward at) placed _ _ (λ f. t) (λ f. tt)) (λ e. t)
  begun-onward at letter placed Closes = omega arith
  begun-onward at letter placed Unknown = tt

  again-onward : (at letter : ℕ) (meaning : Letter) → Onward at (again text at letter meaning)
  unfolding Onward
  again-onward at letter (Draws kind) = group-onward at (repeated_of kind) letter
  again-onward at letter Closes = tt
  again-onward at letter Unknown = tt

-- what is due at a place stands further on, and the place within the text, unless nothing is due
Within : List ℕ → ℕ → Result Due Refusal → Type 0
Within text at (Ok Done) = Unit
Within text at (Err reason) = at < length text
Within text at (Ok (Close next)) = (at < next) × (at < length text)
Within text at (Ok (GroupDue kind letter first)) = (at ≤ first) × (at < length text)

within : (text : List ℕ) (at : ℕ) (due : Result Due Refusal) → at < length text → Onward at due → Within text at due
unfolding Onward Within
within text at (Ok Done) w h = tt
within text at (Err reason) w h = w
within text at (Ok (Close next)) w h = (h, w)
within text at (Ok (GroupDue kind letter first)) w h = (h, w)

due-within : (text : List ℕ) (at letter : ℕ) (placed : Bool) → Within text at (due_at_of text at letter placed)
unfolding due_at_of Within due_letter_of due_again_of
due-within text at letter placed =
    let byte = get_or text at 0 in
    cond-elim (Within text at) (ltb at (length text)) _ (Ok Done)
    (λ e.
    let w : at < length text = omega (arith, ltb-true at (length text) e) in
    cond-elim (Within text at) (is_letter_of byte) _ _
    (λ f. within text at (due_letter_of text at byte placed) w (begun-onward text at byte placed (meaning_of byte)))
    (λ f. within text at (due_again_of text at letter) w (again-onward text at letter (meaning_of letter))))
    (λ e. tt)

-- ---- the step

-- a command starts past separators within the text, ends past where it starts, and leaves a current point; a refusal starts within the text
Goes : List ℕ → ℕ → Result (Option Stepped) Refusal → Type 0
Goes text at (Ok (Some step)) = (at < step.next.at) × (at < length text) × (step.next.placed ≡ true)
Goes text at (Ok None) = Unit
Goes text at (Err reason) = at < length text

module _ (text : List ℕ) (reader : Reader) (offset at : ℕ) where
  taken-goes :
      (kind : Kind) (letter first : ℕ) (relative : Bool) (current control : Point) → at ≤ first → at < length text
      → (group : Result Group Refusal) → read_group_of text first kind relative current control ≡ group
      → Goes text at (and_then group (λ group. Ok (Some (taken letter offset reader.start group))))
  unfolding Goes
  taken-goes kind letter first relative current control h w (Ok group) e = (
    omega (arith, group-ahead text first relative current control kind group e, after-at group.command group.next letter offset reader.start),
    w,
    after-placed group.command group.next letter offset reader.start,
  )
  taken-goes kind letter first relative current control h w (Err reason) e = w

  stepped-goes : (due : Result Due Refusal) → Within text at due → Goes text at (and_then due (stepped text reader offset))
  unfolding Goes Within
  stepped-goes (Ok Done) h = tt
  stepped-goes (Err reason) h = h
  stepped-goes (Ok (Close next)) h =
      (omega (arith, h.0, after-at ClosePath next reader.letter offset reader.start), h.1, after-placed ClosePath next reader.letter offset reader.start)
  stepped-goes (Ok (GroupDue kind letter first)) h =
      let control = first_control_of kind reader.letter reader.current reader.control in
      taken-goes kind letter first (is_relative_of letter reader.placed) reader.current control h.0 h.1
      (read_group_of text first kind (is_relative_of letter reader.placed) reader.current control) refl

module _ (text : List ℕ) (reader : Reader) where
  at : ℕ
  at = past_separators_of text reader.at

  onward : reader.at ≤ at
  unfolding at
  onward = all-onward separators text reader.at

  step-goes : Goes text at (read_step_of text reader)
  unfolding at read_step_of next_due_of
  step-goes =
      let at = past_separators_of text reader.at in
      stepped-goes text reader (offset_of text reader) at (due_at_of text at reader.letter reader.placed) (due-within text at reader.letter reader.placed)

  module _ (step : Stepped) (e : read_step_of text reader ≡ Ok (Some step)) where
    -- the command starts past the separators
    pub step_past : (reader.at ≤ past_separators_of text reader.at) × (past_separators_of text reader.at < step.next.at) × (past_separators_of text reader.at < length text)
    unfolding at Goes
    step_past = let g = subst (Goes text at) e step-goes in (onward, g.0, g.1)

    pub step-ahead : (reader.at < step.next.at) × (reader.at < length text) × (step.next.placed ≡ true)
    unfolding Goes
    step-ahead = let g = subst (Goes text at) e step-goes in (omega (arith, onward, g.0), omega (arith, onward, g.1), g.2)

  pub step-within : (reason : Refusal) → read_step_of text reader ≡ Err reason → reader.at < length text
  unfolding Goes
  step-within reason e = let g = subst (Goes text at) e step-goes in omega (arith, onward)
