-- Smooth curves as SVG 1.1 has them (8.3.6 and 8.3.7), said of the commands of a text and of the letters that made them. Of the reader's state they
-- use the places alone where commands end. Definitions only.
use Rattle.std.specs.Prelude.{ℕ, zero, suc, ◌≡◌, Bool, true, false, cond, List, [], ◌∷◌, Some, None, Ok, Err, length, get_or}
use Rattle.std.specs.Float.{binary32}
use Rattle.std.specs.Float.Ieee.{add, sub}
use Rattle.scan.specs.Bytes.{among}
use Rattle.scan.specs.Runs.{past_separators_of}
use Rattle.math.specs.declared.points.Point.{Point}
use Rattle.commands.specs.declared.command.PathCommand.{PathCommand}
use Rattle.commands.specs.declared.command.PathCommand.TheVariants.{MoveTo, LineTo, QuadTo, CubicTo, ArcTo, ClosePath}
use Rattle.svg_group.specs.Letters.{is_letter_of, meaning_of}
use Rattle.svg_step.specs.Steps.{draws_cubic, draws_quad, of_kind, fresh_of, Step, read_step_of}
use Rattle.svg_step.specs.declared.steps.Reader.{Reader}

-- ---- the commands of a text, each with the letter that made it

pub record Entry : Type 0 where
  pub letter : ℕ
  pub command : PathCommand

-- "After separators a letter becomes the remembered command; any other byte repeats it": what makes the command from a place on, past one that the
-- letter `last` made
abbrev pub made_by : List ℕ → ℕ → ℕ → ℕ
made_by text from last =
    let at = past_separators_of text from in
    cond (is_letter_of (get_or text at 0)) (get_or text at 0) last

abbrev pub entered : (ℕ → Reader → List Entry) → ℕ → Step → List Entry
entered rest letter (Ok (Some step)) = record { letter = letter; command = step.command } ∷ rest letter step.next
entered rest letter (Ok None) = []
entered rest letter (Err reason) = []

unfoldable pub entries_beginning : ℕ → List ℕ → ℕ → Reader → List Entry
entries_beginning zero text last reader = []
entries_beginning (suc steps) text last reader = entered (entries_beginning steps text) (made_by text reader.at last) (read_step_of text reader)

unfoldable pub entries_of : List ℕ → List Entry
entries_of text = entries_beginning (suc (length text)) text 0 fresh_of

abbrev pub commands_in : List Entry → List PathCommand
commands_in [] = []
commands_in (entry ∷ rest) = entry.command ∷ commands_in rest

-- ---- what SVG 1.1 asks of them

-- where a command ends, in a subpath that starts at a point, and where the subpath starts that goes on from there
abbrev pub end_of : Point → PathCommand → Point
end_of start (MoveTo end) = end
end_of start (LineTo end) = end
end_of start (QuadTo control end) = end
end_of start (CubicTo control1 control2 end) = end
end_of start (ArcTo radii rotation large sweep end) = end
end_of start ClosePath = start

abbrev pub start_of : Point → PathCommand → Point
start_of start (MoveTo end) = end
start_of start (LineTo end) = start
start_of start (QuadTo control end) = start
start_of start (CubicTo control1 control2 end) = start
start_of start (ArcTo radii rotation large sweep end) = start
start_of start ClosePath = start

-- a control on the other side of a point: by coordinate the difference, rounded, then the sum
abbrev pub reflected : Point → Point → Point
reflected point control =
    record {
      x = add binary32 point.x (sub binary32 point.x control.x);
      y = add binary32 point.y (sub binary32 point.y control.y);
    }

-- 8.3.6: "the reflection of the second control point on the previous command relative to the current point. (If there is no previous command or if
-- the previous command was not an C, c, S or s, assume the first control point is coincident with the current point.)"
abbrev pub cubic_first : Point → PathCommand → Point
cubic_first start (CubicTo control1 control2 end) = reflected end control2
cubic_first start (MoveTo end) = end
cubic_first start (LineTo end) = end
cubic_first start (QuadTo control end) = end
cubic_first start (ArcTo radii rotation large sweep end) = end
cubic_first start ClosePath = start

-- 8.3.7, the same of "a Q, q, T or t"
abbrev pub quad_first : Point → PathCommand → Point
quad_first start (QuadTo control end) = reflected end control
quad_first start (MoveTo end) = end
quad_first start (LineTo end) = end
quad_first start (CubicTo control1 control2 end) = end
quad_first start (ArcTo radii rotation large sweep end) = end
quad_first start ClosePath = start

abbrev pub CubicFrom : Point → PathCommand → Type 0
CubicFrom first command = (control2 : Point) × (end : Point) × (command ≡ CubicTo first control2 end)

abbrev pub QuadFrom : Point → PathCommand → Type 0
QuadFrom first command = (end : Point) × (command ≡ QuadTo first end)

abbrev pub is_cubic : PathCommand → Bool
is_cubic (MoveTo end) = false
is_cubic (LineTo end) = false
is_cubic (QuadTo control end) = false
is_cubic (CubicTo control1 control2 end) = true
is_cubic (ArcTo radii rotation large sweep end) = false
is_cubic ClosePath = false

abbrev pub is_quad : PathCommand → Bool
is_quad (MoveTo end) = false
is_quad (LineTo end) = false
is_quad (QuadTo control end) = true
is_quad (CubicTo control1 control2 end) = false
is_quad (ArcTo radii rotation large sweep end) = false
is_quad ClosePath = false

-- one command past another, in a subpath that starts at a point
pub record Follows (start : Point) (previous : PathCommand) (letter : ℕ) (command : PathCommand) : Type 0 where
  -- S and s
  pub smooth_cubic : among letter (83 ∷ 115 ∷ []) ≡ true → CubicFrom (cubic_first start previous) command
  -- T and t
  pub smooth_quad : among letter (84 ∷ 116 ∷ []) ≡ true → QuadFrom (quad_first start previous) command
  -- only C and S make cubics, and only Q and T quads: so a cubic before it is SVG's "C, c, S or s"
  pub cubic : of_kind draws_cubic (meaning_of letter) ≡ is_cubic command
  pub quad : of_kind draws_quad (meaning_of letter) ≡ is_quad command

-- each of a list past the one before it
abbrev pub Smooth : Point → PathCommand → List Entry → Type 0
Smooth start previous [] = Unit
Smooth start previous (entry ∷ rest) =
    Follows start previous entry.letter entry.command × Smooth (start_of start entry.command) entry.command rest
