-- A step without values agrees with the step. Assumes nothing.
use Prim.Native.Nat.{ℕ, ◌<◌}
use mathlib.Core.Path.{◌≡◌, refl, ap, ◌∙◌}
use mathlib.Core.Bool.{Bool}
use mathlib.Core.List.{List}
use native.Mathlib.Omega.{arith}
use lib.ListN.{length}
use Rattle.std.specs.Prelude.{Option, Some, None, Result, Ok, Err}
use Rattle.answers.specs.declared.refusals.Refusal.{Refusal}
use Rattle.math.specs.declared.points.Point.{Point}
use Rattle.commands.specs.Stored.{arguments_of}
use Rattle.commands.specs.declared.command.PathCommand.{PathCommand}
use Rattle.commands.specs.declared.command.PathCommand.TheVariants.{MoveTo, LineTo, QuadTo, CubicTo, ArcTo, ClosePath}
use Rattle.svg_group.specs.Numbers.{and_then}
use Rattle.svg_group.specs.Letters.{width_of}
use Rattle.svg_group.specs.Groups.{read_group_of}
use Rattle.svg_group.specs.declared.letters.Kind.{Kind}
use Rattle.svg_group.specs.declared.letters.Kind.TheVariants.{Move, Line, Horizontal, Vertical, Cubic, SmoothCubic, Quad, SmoothQuad, Arc}
use Rattle.svg_group.specs.declared.groups.Group.{Group}
use Rattle.svg_group.proofs.Places.{group_place, group-place}
use Rattle.svg_group.proofs.Widths.{group-width}
use Rattle.svg_step.specs.Steps.{is_relative_of, first_control_of, after_of, next_due_of, offset_of, taken, stepped, read_step_of, pass_to, passed, pass_step_of}
use Rattle.svg_step.specs.declared.steps.Reader.{Reader}
use Rattle.svg_step.specs.declared.steps.Due.{Due}
use Rattle.svg_step.specs.declared.steps.Due.TheVariants.{Done, Close, Group as GroupDue}
use Rattle.svg_step.specs.declared.steps.Stepped.{Stepped}
use Rattle.svg_step.specs.declared.steps.Pass.{Pass}
use Rattle.svg_step.proofs.Ahead.{after-at}

-- what of a step needs no values
abbrev pub pass_of : Result (Option Stepped) Refusal → Result (Option Pass) Refusal
pass_of (Ok (Some step)) = Ok (Some (pass_to (length (arguments_of step.command)) step.next.at step.next.letter))
pass_of (Ok None) = Ok None
pass_of (Err reason) = Err reason

-- a command with numbers keeps the letter
after-letter : (command : PathCommand) (next letter offset : ℕ) (start : Point) → 0 < length (arguments_of command) → (after_of command next letter offset start).letter ≡ letter
unfolding after_of
after-letter (MoveTo end) next letter offset start w = refl
after-letter (LineTo end) next letter offset start w = refl
after-letter (QuadTo control end) next letter offset start w = refl
after-letter (CubicTo control1 control2 end) next letter offset start w = refl
after-letter (ArcTo radii rotation large sweep end) next letter offset start w = refl
after-letter ClosePath next letter offset start w = absurd (omega arith)

some-width : (kind : Kind) → 0 < width_of kind
some-width Move = omega arith
some-width Line = omega arith
some-width Horizontal = omega arith
some-width Vertical = omega arith
some-width Cubic = omega arith
some-width SmoothCubic = omega arith
some-width Quad = omega arith
some-width SmoothQuad = omega arith
some-width Arc = omega arith

module _ (text : List ℕ) (reader : Reader) (offset : ℕ) where
  taken-passed :
      (kind : Kind) (letter first : ℕ) (relative : Bool) (current control : Point) (group : Result Group Refusal)
      → read_group_of text first kind relative current control ≡ group
      → pass_of (and_then group (λ group. Ok (Some (taken letter offset reader.start group)))) ≡ and_then (group_place group) (λ next. Ok (Some (pass_to (width_of kind) next letter)))
  taken-passed kind letter first relative current control (Ok group) e =
      let w = group-width text first relative current control kind group e in
      let a = after-at group.command group.next letter offset reader.start in
      let l = after-letter group.command group.next letter offset reader.start (omega (arith, some-width kind)) in
      cc
  taken-passed kind letter first relative current control (Err reason) e = refl

  stepped-passed : (due : Result Due Refusal) → pass_of (and_then due (stepped text reader offset)) ≡ and_then due (passed text)
  unfolding after_of
  stepped-passed (Ok Done) = refl
  stepped-passed (Err reason) = refl
  stepped-passed (Ok (Close next)) = refl
  stepped-passed (Ok (GroupDue kind letter first)) =
      let relative = is_relative_of letter reader.placed in
      let control = first_control_of kind reader.letter reader.current reader.control in
      taken-passed kind letter first relative reader.current control (read_group_of text first kind relative reader.current control) refl
      ∙ ap (λ p. and_then p (λ next. Ok (Some (pass_to (width_of kind) next letter)))) (group-place text relative reader.current control first kind)

-- a step without values agrees with the step
module _ (text : List ℕ) (reader : Reader) where
  pub step-passed : pass_of (read_step_of text reader) ≡ pass_step_of text reader.at reader.letter reader.placed
  unfolding read_step_of pass_step_of
  step-passed = stepped-passed text reader (offset_of text reader) (next_due_of text reader.at reader.letter reader.placed)
