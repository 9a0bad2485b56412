-- The segments of a list of commands (source document 002, `from_commands`; document 01, "The answers" and "Lengths, tables and lookup"), and which command made each (document 02, L5).
-- Segments and commands count from 0, lengths are `f32` values in path units. Definitions only.
use Rattle.std.specs.Prelude.{ℕ, suc, cond, Option, Some, None, List, [], ◌∷◌, Float}
use Rattle.std.specs.Float.{binary32}
use Rattle.std.specs.Float.Ieee.{add}
use Rattle.std.specs.Float.Ieee.Scale.{finite}
use Rattle.answers.specs.declared.refusals.Refusal.{Refusal}
use Rattle.answers.specs.declared.refusals.Refusal.TheVariants.{RotationRange, NotFinite}
use Rattle.floats.specs.Floats.{zero_f}
use Rattle.commands.specs.declared.command.PathCommand.{PathCommand}
use Rattle.path_segment.specs.Segments.{length_for}
use Rattle.path_segment.specs.declared.segments.PathSegment.{PathSegment}
use Rattle.path_drawing.specs.Drawing.{fresh_of, draw_of}
use Rattle.path_drawing.specs.declared.pens.Pen.{Pen}
use Rattle.path_drawing.specs.declared.strokes.Drawn.{Drawn}
use Rattle.path_drawing.specs.declared.strokes.Drawn.TheVariants.{Moved, Segment}

-- what building gives: the segments in drawing order, or the first refusal
pub data Built : Type 0 where
  path : List PathSegment → Built
  refusal : Refusal → Built

abbrev pub prepend : PathSegment → Built → Built
prepend segment (path rest) = path (segment ∷ rest)
prepend segment (refusal reason) = refusal reason

-- `push_segment_mut`: the running length up to a segment's end
abbrev pub length_after : Float → PathSegment → Float
length_after before segment = add binary32 before (length_for segment)

-- "segment by segment 10 before 11": what follows from the segment numbered k on, which has the running length `before` before it, where `rest` builds on
abbrev pub follow : ℕ → Float → Option Drawn → (ℕ → Float → Pen → Built) → Built
follow k before (Some (Moved next)) rest = rest k before next
follow k before (Some (Segment segment next)) rest =
    cond (finite (length_after before segment)) (prepend segment (rest (suc k) (length_after before segment) next)) (refusal (NotFinite k))
follow k before None rest = refusal (RotationRange k)

unfoldable pub build_from : List PathCommand → ℕ → Float → Pen → Built
build_from [] k before pen = path []
build_from (command ∷ commands) k before pen = follow k before (draw_of pen command) (build_from commands)

-- "0 stands before its first"
unfoldable pub build_of : List PathCommand → Built
unfolding build_from
build_of commands = build_from commands 0 zero_f fresh_of

-- ---- "each segment the number of its command": a command that draws none is counted too

-- the number of a command, where it draws a segment
abbrev pub named_by : ℕ → Option Drawn → List ℕ
named_by n (Some (Moved next)) = []
named_by n (Some (Segment segment next)) = n ∷ []
named_by n None = []

-- what follows from the command numbered n on, where `rest` goes on from the pen after it
abbrev pub named : ℕ → Option Drawn → (Pen → List ℕ) → List ℕ
named n (Some (Moved next)) rest = rest next
named n (Some (Segment segment next)) rest = n ∷ rest next
named n None rest = []

-- the numbers of the commands that draw, by the recursion of `build_from`
unfoldable pub drawers_from : List PathCommand → ℕ → Pen → List ℕ
drawers_from [] n pen = []
drawers_from (command ∷ commands) n pen = named n (draw_of pen command) (drawers_from commands (suc n))

unfoldable pub drawers_of : List PathCommand → List ℕ
unfolding drawers_from
drawers_of commands = drawers_from commands 0 fresh_of
