-- The offset that a step leaves is that of the letter which makes its command: it stands within the text, and offsets never fall. Assumes nothing.
use Prim.Native.Nat.{ℕ, ◌≤◌, ◌<◌}
use mathlib.Core.Path.{◌≡◌, refl, subst}
use mathlib.Core.Bool.{Bool, true, false, cond}
use mathlib.Core.List.{List}
use native.Mathlib.Omega.{arith}
use lib.ListN.{length, get_or}
use Rattle.std.specs.Prelude.{Option, Some, None, Result, Ok, Err}
use Rattle.answers.specs.declared.refusals.Refusal.{Refusal}
use Rattle.scan.specs.Runs.{past_separators_of}
use Rattle.math.specs.declared.points.Point.{Point}
use Rattle.commands.specs.declared.command.PathCommand.{PathCommand}
use Rattle.commands.specs.declared.command.PathCommand.TheVariants.{MoveTo, LineTo, QuadTo, CubicTo, ArcTo, ClosePath}
use Rattle.svg_group.specs.Numbers.{and_then}
use Rattle.svg_group.specs.Letters.{is_letter_of}
use Rattle.svg_group.specs.Groups.{read_group_of}
use Rattle.svg_group.specs.declared.groups.Group.{Group}
use Rattle.svg_step.specs.Steps.{is_relative_of, first_control_of, after_of, next_due_of, offset_at, offset_of, taken, stepped, read_step_of}
use Rattle.svg_step.specs.declared.steps.Reader.{Reader}
use Rattle.svg_step.specs.declared.steps.Due.{Due}
use Rattle.svg_step.specs.declared.steps.Due.TheVariants.{Done, Close, Group as GroupDue}
use Rattle.svg_step.specs.declared.steps.Stepped.{Stepped}
use Rattle.svg_step.proofs.Ahead.{step_past, step-ahead}

after-offset : (command : PathCommand) (next letter offset : ℕ) (start : Point) → (after_of command next letter offset start).offset ≡ offset
unfolding after_of
after-offset (MoveTo end) next letter offset start = refl
after-offset (LineTo end) next letter offset start = refl
after-offset (QuadTo control end) next letter offset start = refl
after-offset (CubicTo control1 control2 end) next letter offset start = refl
after-offset (ArcTo radii rotation large sweep end) next letter offset start = refl
after-offset ClosePath next letter offset start = refl

Leaves : ℕ → Result (Option Stepped) Refusal → Type 0
Leaves offset (Ok (Some step)) = step.next.offset ≡ offset
Leaves offset (Ok None) = Unit
Leaves offset (Err reason) = Unit

taken-leaves : (letter offset : ℕ) (start : Point) (group : Result Group Refusal) → Leaves offset (and_then group (λ group. Ok (Some (taken letter offset start group))))
unfolding Leaves
taken-leaves letter offset start (Ok group) = after-offset group.command group.next letter offset start
taken-leaves letter offset start (Err reason) = tt

module _ (text : List ℕ) (reader : Reader) where
  stepped-leaves : (offset : ℕ) (due : Result Due Refusal) → Leaves offset (and_then due (stepped text reader offset))
  unfolding Leaves
  stepped-leaves offset (Ok Done) = tt
  stepped-leaves offset (Err reason) = tt
  stepped-leaves offset (Ok (Close next)) = after-offset ClosePath next reader.letter offset reader.start
  stepped-leaves offset (Ok (GroupDue kind letter first)) =
      let relative = is_relative_of letter reader.placed in
      let control = first_control_of kind reader.letter reader.current reader.control in
      taken-leaves letter offset reader.start (read_group_of text first kind relative reader.current control)

  step-leaves : Leaves (offset_of text reader) (read_step_of text reader)
  unfolding read_step_of
  step-leaves = stepped-leaves (offset_of text reader) (next_due_of text reader.at reader.letter reader.placed)

  either : (b : Bool) (at last low high : ℕ) → (low ≤ at) × (at < high) → (low ≤ last) × (last < high) → (low ≤ cond b at last) × (cond b at last < high)
  either true at last low high f g = f
  either false at last low high f g = g

  module _ (step : Stepped) (e : read_step_of text reader ≡ Ok (Some step)) where
    pub step-offset : step.next.offset ≡ offset_of text reader
    unfolding Leaves
    step-offset = subst (Leaves (offset_of text reader)) e step-leaves

    module _ (kept : reader.offset ≤ reader.at) where
      lies : (high : ℕ) → past_separators_of text reader.at < high → reader.at < high → (reader.offset ≤ offset_of text reader) × (offset_of text reader < high)
      unfolding offset_at
      lies high h k =
          let p = step_past text reader step e in
          either (is_letter_of (get_or text (past_separators_of text reader.at) 0)) (past_separators_of text reader.at) reader.offset reader.offset high
          (omega (arith, p.0), h) (omega arith, omega arith)

      -- the letter stands within the text and before the state's place, and not before the last letter
      pub offset-lies : (reader.offset ≤ step.next.offset) × (step.next.offset < length text) × (step.next.offset < step.next.at)
      offset-lies =
          let p = step_past text reader step e in
          let a = step-ahead text reader step e in
          let t = lies (length text) p.2 a.1 in
          let n = lies step.next.at p.1 a.0 in
          let o = step-offset in
          (omega (arith, t.0), omega (arith, t.1), omega (arith, n.1))
