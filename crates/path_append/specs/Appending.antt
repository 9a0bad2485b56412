-- One segment more on a stored path with room after it (source document 002, `push_segment`, `line_to`, `quad_to`, `cubic_to`, `arc_to`; document 01, "The answers"; document 02, L5). The path
-- is the first `count` segments of the kinds, with their numbers, tables, running lengths and command numbers at the start of each buffer; `command` is the new segment's command number, which
-- the caller names. Definitions only.
use Rattle.std.specs.Prelude.{ℕ, ◌+◌, ◌*◌, ◌≤◌, ◌<◌, ◌≡◌, Bool, true, false, ◌&&◌, cond, List, ◌∷◌, leb, ltb, length, get_or, take, set, Float, Result, Ok, Err}
use Rattle.std.proofs.lemmas.List.Edits.{sets}
use Rattle.std.specs.Float.{binary32}
use Rattle.std.specs.Float.Ieee.{add}
use Rattle.std.specs.Float.Ieee.Scale.{finite}
use Rattle.answers.specs.declared.refusals.Values.{Values}
use Rattle.answers.specs.declared.refusals.Values.TheVariants.{Five}
use Rattle.answers.specs.declared.refusals.Refusal.{Refusal}
use Rattle.answers.specs.declared.refusals.Refusal.TheVariants.{NoRoom, RotationRange, NotFinite, BadPath, Range}
use Rattle.answers.specs.Answers.{Answer, accepted, refused, listed}
use Rattle.table.specs.Spots as Spots
use Rattle.ellipse.specs.declared.ends.Chord.{Chord}
use Rattle.ellipse.specs.Ends.{from_ends_of}
use Rattle.arc.specs.Arcs.{is_fallback, fallback_shape}
use Rattle.path_segment.specs.declared.segments.PathSegment.{PathSegment}
use Rattle.path_segment.specs.declared.segments.PathSegment.TheVariants as Segment
use Rattle.path_segment.specs.Segments.{kind_of, width_of, tables_of, fields_of, table_stored, length_for}
use Rattle.path_stored.specs.Buffers.{Buffers, buffers}
use Rattle.path_stored.specs.Stored.{before, most_segments, is_stored}

-- ---- the path in use

-- how many numbers it has, and how many places its tables take
abbrev pub numbers_used : List ℕ → ℕ → ℕ
numbers_used kinds count = before width_of kinds count

abbrev pub tables_used : List ℕ → ℕ → ℕ
tables_used kinds count = 33 * before tables_of kinds count

-- the first `count` segments of the buffers
abbrev pub first_of : Buffers → ℕ → Buffers
first_of b count =
    buffers (take count b.kinds) (take (numbers_used b.kinds count) b.fields) (take (tables_used b.kinds count) b.tables) (take count b.lengths)
    (take count b.commands)

-- so many kinds are there, and what they say is a stored path
unfoldable pub in_use : Buffers → ℕ → Bool
in_use b count = leb count (length b.kinds) && is_stored (first_of b count)

-- the command number before the new one: the last in use, and 0 before the first
abbrev pub number_before : List ℕ → ℕ → ℕ
number_before commands count = get_or (0 ∷ commands) count 0

-- the new number is not below it: the path with the segment would fail the check
unfoldable pub may_follow : Buffers → ℕ → ℕ → Bool
unfolding in_use
may_follow b count command = in_use b count && leb (number_before b.commands count) command

-- ---- what is judged

-- 10 is "for a rotation that is NaN or infinite, on an arc that is no fallback": where this is false
abbrev pub may_turn : PathSegment → Bool
may_turn (Segment.Line line) = true
may_turn (Segment.Quad start control end) = true
may_turn (Segment.Cubic start control1 control2 end) = true
may_turn (Segment.Arc shape) = finite shape.x_axis_rotation
may_turn (Segment.Fallback shape) = true

-- the new running length, one sum rounded once
unfoldable pub grown_of : List Float → ℕ → PathSegment → Float
grown_of lengths count segment = add binary32 (Spots.before lengths count) (length_for segment)

-- "the count needed of each output, in the call's order": what is in use and what the segment adds
unfoldable pub needs_of : List ℕ → ℕ → PathSegment → Values
needs_of kinds count segment =
    Five (count + 1) (numbers_used kinds count + width_of (kind_of segment)) (tables_used kinds count + 33 * tables_of (kind_of segment)) (count + 1) (count + 1)

-- no lent output is too short
unfoldable pub has_room : Buffers → ℕ → PathSegment → Bool
has_room b count segment =
    ltb count (length b.kinds)
    && leb (numbers_used b.kinds count + width_of (kind_of segment)) (length b.fields)
    && leb (tables_used b.kinds count + 33 * tables_of (kind_of segment)) (length b.tables)
    && ltb count (length b.lengths)
    && ltb count (length b.commands)

-- 8, where all else is right
unfoldable pub fitting_of : Buffers → ℕ → PathSegment → Result Values Refusal
unfolding needs_of has_room
fitting_of b count segment = cond (has_room b count segment) (Ok (needs_of b.kinds count segment)) (Err (NoRoom (needs_of b.kinds count segment)))

-- 12, 13 with the count of segments that there would be, 10, 11 with the new segment's number, 8
unfoldable pub appended_of : Buffers → ℕ → ℕ → PathSegment → Result Values Refusal
unfolding may_follow grown_of fitting_of
appended_of b count command segment =
    cond (may_follow b count command)
    (cond (ltb count most_segments)
    (cond (may_turn segment)
    (cond (finite (grown_of b.lengths count segment)) (fitting_of b count segment) (Err (NotFinite count)))
    (Err (RotationRange count)))
    (Err (Range (count + 1))))
    (Err BadPath)

-- the number and the values of each case; an accepted call tells what is in use now
abbrev pub answer_of : Result Values Refusal → Answer
answer_of (Ok counts) = accepted (listed counts)
answer_of (Err refusal) = refused refusal

abbrev pub is_added : Result Values Refusal → Bool
is_added (Ok counts) = true
is_added (Err refusal) = false

-- ---- what is written

-- the segment's own places and no others
abbrev pub stored_at : Buffers → ℕ → ℕ → PathSegment → Buffers
stored_at b count command segment =
    buffers (set b.kinds count (kind_of segment)) (sets b.fields (numbers_used b.kinds count) (fields_of segment))
    (sets b.tables (tables_used b.kinds count) (table_stored segment)) (set b.lengths count (grown_of b.lengths count segment))
    (set b.commands count command)

-- "A refusal writes to no output."
abbrev pub afterwards : Result Values Refusal → Buffers → ℕ → ℕ → PathSegment → Buffers
afterwards appended b count command segment = cond (is_added appended) (stored_at b count command segment) b

pub record Append (b : Buffers) (count command : ℕ) (segment : PathSegment) (r : Result Values Refusal) (b' : Buffers) : Type 0 where
  pub answer : r ≡ appended_of b count command segment
  pub after : b' ≡ afterwards r b count command segment

-- what storing asks: room for the segment after those in use
pub record Room (b : Buffers) (count : ℕ) (segment : PathSegment) : Type 0 where
  pub few : count < most_segments
  pub for_kind : count < length b.kinds
  pub for_numbers : numbers_used b.kinds count + width_of (kind_of segment) ≤ length b.fields
  pub for_table : tables_used b.kinds count + 33 * tables_of (kind_of segment) ≤ length b.tables
  pub for_length : count < length b.lengths
  pub for_command : count < length b.commands

-- ---- `arc_to`: `EllipticalArc::from_svg`, a line fallback or an arc
unfoldable pub arc_segment : Chord → PathSegment
arc_segment chord = cond (is_fallback chord) (Segment.Fallback (fallback_shape chord)) (Segment.Arc (from_ends_of chord))
