-- One step of permissive reading: the next command, the end of the text or a refusal (document 01, "Permissive reading"). Places count bytes
-- from 0. Definitions only.
use Rattle.std.specs.Prelude.{ℕ, ◌+◌, Bool, true, false, ◌&&◌, cond, List, Option, Some, None, Result, Ok, Err, ltb, leb, length, get_or}
use Rattle.std.specs.Float.{binary32}
use Rattle.std.specs.Float.Ieee.{of_bits}
use Rattle.answers.specs.declared.refusals.Refusal.{Refusal}
use Rattle.answers.specs.declared.refusals.Refusal.TheVariants.{ExpectedNumber, UnsupportedCommand, MissingMoveTo}
use Rattle.scan.specs.Bytes.{among, number_starts}
use Rattle.scan.specs.Runs.{past_separators_of}
use Rattle.math.specs.Math.{add_of, sub_of}
use Rattle.math.specs.declared.points.Point.{Point}
use Rattle.commands.specs.declared.command.PathCommand.{PathCommand}
use Rattle.commands.specs.declared.command.PathCommand.TheVariants.{MoveTo, LineTo, QuadTo, CubicTo, ArcTo, ClosePath}
use Rattle.svg_group.specs.Numbers.{and_then}
use Rattle.svg_group.specs.Letters.{is_letter_of, meaning_of, width_of}
use Rattle.svg_group.specs.Groups.{read_group_of}
use Rattle.svg_group.specs.declared.letters.Kind.{Kind}
use Rattle.svg_group.specs.declared.letters.Kind.TheVariants.{Move, Line, Horizontal, Vertical, Cubic, SmoothCubic, Quad, SmoothQuad, Arc}
use Rattle.svg_group.specs.declared.letters.Letter.{Letter}
use Rattle.svg_group.specs.declared.letters.Letter.TheVariants.{Draws, Closes, Unknown}
use Rattle.svg_group.specs.Passing.{pass_group_of}
use Rattle.svg_group.specs.declared.groups.Group.{Group}
use Rattle.svg_step.specs.declared.steps.Due.{Due}
use Rattle.svg_step.specs.declared.steps.Due.TheVariants.{Done, Close, Group as GroupDue}
use Rattle.svg_step.specs.declared.steps.Pass.{Pass}
use Rattle.svg_step.specs.declared.steps.Reader.{Reader}
use Rattle.svg_step.specs.declared.steps.Stepped.{Stepped}

-- no current point and no remembered command; the points are those to which a Z at the start returns
abbrev pub origin : Point
origin = record { x = of_bits binary32 0; y = of_bits binary32 0 }

abbrev pub fresh_of : Reader
fresh_of = record { at = 0; current = origin; start = origin; placed = false; control = origin; letter = 0; offset = 0 }

-- "Lower case adds to the current point, with none it is absolute."
unfoldable pub is_relative_of : ℕ → Bool → Bool
is_relative_of letter placed = leb 97 letter && placed

-- LHVCSQTA "need a current point"
unfoldable pub needs_point_of : Kind → Bool
needs_point_of Move = false
needs_point_of Line = true
needs_point_of Horizontal = true
needs_point_of Vertical = true
needs_point_of Cubic = true
needs_point_of SmoothCubic = true
needs_point_of Quad = true
needs_point_of SmoothQuad = true
needs_point_of Arc = true

-- "M: first pair MoveTo, more pairs LineTo."
unfoldable pub repeated_of : Kind → Kind
repeated_of Move = Line
repeated_of Line = Line
repeated_of Horizontal = Horizontal
repeated_of Vertical = Vertical
repeated_of Cubic = Cubic
repeated_of SmoothCubic = SmoothCubic
repeated_of Quad = Quad
repeated_of SmoothQuad = SmoothQuad
repeated_of Arc = Arc

-- ---- the first control of S and T (document 02, L1)

-- p + (p - c) by coordinate: "the current point plus the rounded difference of current point and control"
unfoldable pub mirrored_of : Point → Point → Point
mirrored_of current control = add_of current (sub_of current control)

-- the kinds that draw a cubic, and those that draw a quad
abbrev pub draws_cubic : Kind → Bool
draws_cubic Move = false
draws_cubic Line = false
draws_cubic Horizontal = false
draws_cubic Vertical = false
draws_cubic Cubic = true
draws_cubic SmoothCubic = true
draws_cubic Quad = false
draws_cubic SmoothQuad = false
draws_cubic Arc = false

abbrev pub draws_quad : Kind → Bool
draws_quad Move = false
draws_quad Line = false
draws_quad Horizontal = false
draws_quad Vertical = false
draws_quad Cubic = false
draws_quad SmoothCubic = false
draws_quad Quad = true
draws_quad SmoothQuad = true
draws_quad Arc = false

abbrev pub of_kind : (Kind → Bool) → Letter → Bool
of_kind draws (Draws kind) = draws kind
of_kind draws Closes = false
of_kind draws Unknown = false

-- "when the previous command was C or S (for S), Q or T (for T)": whether a kind takes up the control of a command of a letter
unfoldable pub takes_up_of : Kind → Letter → Bool
takes_up_of Move last = false
takes_up_of Line last = false
takes_up_of Horizontal last = false
takes_up_of Vertical last = false
takes_up_of Cubic last = false
takes_up_of SmoothCubic last = of_kind draws_cubic last
takes_up_of Quad last = false
takes_up_of SmoothQuad last = of_kind draws_quad last
takes_up_of Arc last = false

-- "the last control mirrored through the current point .. and the current point itself otherwise"
unfoldable pub first_control_of : Kind → ℕ → Point → Point → Point
first_control_of kind last current control = cond (takes_up_of kind (meaning_of last)) (mirrored_of current control) current

-- ---- the state after a command

-- a command that ends at a point; `control` is its last control, or its end where it has none
abbrev pub drawn : Point → Point → Point → ℕ → ℕ → ℕ → Reader
drawn end start control next letter offset =
    record { at = next; current = end; start = start; placed = true; control = control; letter = letter; offset = offset }

-- the state after a command, read up to `next` with a letter remembered that stands at an offset, in a subpath that starts at a point
unfoldable pub after_of : PathCommand → ℕ → ℕ → ℕ → Point → Reader
after_of (MoveTo end) next letter offset start = drawn end end end next letter offset
after_of (LineTo end) next letter offset start = drawn end start end next letter offset
after_of (QuadTo control end) next letter offset start = drawn end start control next letter offset
after_of (CubicTo control1 control2 end) next letter offset start = drawn end start control2 next letter offset
after_of (ArcTo radii rotation large sweep end) next letter offset start = drawn end start end next letter offset
-- "Z .. returns to the subpath's start, sets the current point and forgets the command."
after_of ClosePath next letter offset start = drawn start start start next 0 offset

-- ---- what is due at a place

-- "a number must start (digit, + - .) after separators, else 3 at the place before those separators"
unfoldable pub due_group_of : List ℕ → ℕ → Kind → ℕ → Result Due Refusal
due_group_of text at kind letter =
    let first = past_separators_of text at in
    cond (among (get_or text first 0) number_starts) (Ok (GroupDue kind letter first)) (Err (ExpectedNumber at))

-- LHVCSQTA "need a current point, else 7 just after the letter. Then, and for M at once, a number must start"; 6 is a letter other than MLHVCSQTAZ
-- in either case
abbrev pub begun : List ℕ → ℕ → ℕ → Bool → Letter → Result Due Refusal
begun text at letter placed (Draws kind) =
    cond (needs_point_of kind)
    (cond placed (due_group_of text (at + 1) kind letter) (Err (MissingMoveTo (at + 1))))
    (due_group_of text (at + 1) kind letter)
begun text at letter placed Closes = Ok (Close (at + 1))
begun text at letter placed Unknown = Err (UnsupportedCommand letter at)

unfoldable pub due_letter_of : List ℕ → ℕ → ℕ → Bool → Result Due Refusal
due_letter_of text at letter placed = begun text at letter placed (meaning_of letter)

-- "any other byte repeats it; with none, 7 at that byte"; "A command takes groups while a number starts": so a number repeats it too
abbrev pub again : List ℕ → ℕ → ℕ → Letter → Result Due Refusal
again text at letter (Draws kind) = due_group_of text at (repeated_of kind) letter
again text at letter Closes = Err (MissingMoveTo at)
again text at letter Unknown = Err (MissingMoveTo at)

unfoldable pub due_again_of : List ℕ → ℕ → ℕ → Result Due Refusal
due_again_of text at letter = again text at letter (meaning_of letter)

-- "a letter becomes the remembered command; any other byte repeats it": at the place past separators
unfoldable pub due_at_of : List ℕ → ℕ → ℕ → Bool → Result Due Refusal
due_at_of text at letter placed =
    cond (ltb at (length text))
    (cond (is_letter_of (get_or text at 0)) (due_letter_of text at (get_or text at 0) placed) (due_again_of text at letter))
    (Ok Done)

-- "After separators"
unfoldable pub next_due_of : List ℕ → ℕ → ℕ → Bool → Result Due Refusal
next_due_of text from letter placed = due_at_of text (past_separators_of text from) letter placed

-- ---- the letter that makes a command (document 02, L5)

-- "the offset of its command letter": at the place past separators stands a letter, or the one that is remembered stays; `last` is its offset
unfoldable pub offset_at : List ℕ → ℕ → ℕ → ℕ
offset_at text at last = cond (is_letter_of (get_or text at 0)) at last

-- "Implied LineTos carry the letter that started them.", and so does every repeated group
abbrev pub offset_of : List ℕ → Reader → ℕ
offset_of text reader = offset_at text (past_separators_of text reader.at) reader.offset

-- ---- the step

-- a command and the state past it, or none at the end of the text, or a refusal
abbrev pub Step : Type 0
Step = Result (Option Stepped) Refusal

abbrev pub stepped_to : PathCommand → Reader → Stepped
stepped_to command next = record { command = command; next = next }

abbrev pub taken : ℕ → ℕ → Point → Group → Stepped
taken letter offset start group = stepped_to group.command (after_of group.command group.next letter offset start)

-- "Z stores ClosePath"
abbrev pub stepped : List ℕ → Reader → ℕ → Due → Step
stepped text reader offset Done = Ok None
stepped text reader offset (Close next) = Ok (Some (stepped_to ClosePath (after_of ClosePath next reader.letter offset reader.start)))
stepped text reader offset (GroupDue kind letter first) =
    and_then (read_group_of text first kind (is_relative_of letter reader.placed) reader.current (first_control_of kind reader.letter reader.current reader.control))
    (λ group. Ok (Some (taken letter offset reader.start group)))

unfoldable pub read_step_of : List ℕ → Reader → Step
read_step_of text reader = and_then (next_due_of text reader.at reader.letter reader.placed) (stepped text reader (offset_of text reader))

-- ---- the step without values. That it agrees with the step is a law, and no promise of an entry rests on it.

abbrev pub pass_to : ℕ → ℕ → ℕ → Pass
pass_to width next letter = record { width = width; next = next; letter = letter }

abbrev pub passed : List ℕ → Due → Result (Option Pass) Refusal
passed text Done = Ok None
passed text (Close next) = Ok (Some (pass_to 0 next 0))
passed text (GroupDue kind letter first) = and_then (pass_group_of text first kind) (λ next. Ok (Some (pass_to (width_of kind) next letter)))

unfoldable pub pass_step_of : List ℕ → ℕ → ℕ → Bool → Result (Option Pass) Refusal
pass_step_of text from letter placed = and_then (next_due_of text from letter placed) (passed text)
