-- What appending to a stored path gives to C. Definitions only.
use Rattle.std.specs.Prelude.{ℕ, ◌≡◌, Bool, cond, not, ◌&&◌, List, ltb, eqb, length, Float, Result, Err}
use Rattle.answers.specs.declared.refusals.Values.{Values}
use Rattle.answers.specs.declared.refusals.Refusal.{Refusal}
use Rattle.answers.specs.declared.refusals.Refusal.TheVariants.{BadPath}
use Rattle.answers.specs.Report.{short}
use Rattle.math.specs.Math as Math
use Rattle.math.specs.declared.points.Point.{Point}
use Rattle.ellipse.specs.declared.ends.Chord.{Chord}
use Rattle.path_segment.specs.declared.segments.PathSegment.{PathSegment}
use Rattle.path_segment.specs.Segments.{width_of, segment_of}
use Rattle.path_stored.specs.Buffers.{Buffers}
use Rattle.path_append.specs.Appending.{appended_of, answer_of, afterwards}
use Rattle.c_answer.specs.Given.{Given}

-- ---- what is appended

abbrev pub point_of : Float → Float → Point
point_of x y = Math.point_of x y

-- a flag: 0 is no, any other number yes
abbrev pub flag_of : ℕ → Bool
flag_of flag = not (eqb flag 0)

-- an arc as the Rust's `arc_to` takes it
abbrev pub chord_of : Float → Float → Float → Float → Float → ℕ → ℕ → Float → Float → Chord
chord_of sx sy rx ry rotation large sweep ex ey =
    record {
      start = point_of sx sy;
      radii = point_of rx ry;
      x_axis_rotation = rotation;
      large_arc = flag_of large;
      sweep = flag_of sweep;
      end = point_of ex ey;
    }

-- "segments of known kinds with exactly their numbers"
abbrev pub is_segment : ℕ → List Float → Bool
is_segment kind numbers = ltb kind 5 && eqb (length numbers) (width_of kind)

-- 12 for what is no segment; else what appending it answers
unfoldable pub pushed_of : ℕ → List Float → ℕ → ℕ → Buffers → Result Values Refusal
pushed_of kind numbers count command b = cond (is_segment kind numbers) (appended_of b count command (segment_of kind numbers)) (Err BadPath)

-- ---- what is given and stored

-- the answer is reported, and the segment stored where it is accepted; with an answer that is too short nothing is appended
pub record Appending (appended : Result Values Refusal) (segment : PathSegment) (count command : ℕ) (b : Buffers) (answer : List ℕ) (returned : ℕ) (b' : Buffers) (answer' : List ℕ) : Type 0 where
  pub reported : Given (answer_of appended) answer returned answer'
  pub after : b' ≡ cond (short answer) b (afterwards appended b count command segment)

-- a segment, judged as `path_append/specs/Appending.antt` says
abbrev pub Appends : PathSegment → ℕ → ℕ → Buffers → List ℕ → ℕ → Buffers → List ℕ → Type 0
Appends segment count command b = Appending (appended_of b count command segment) segment count command b

-- a segment by its kind and its numbers
abbrev pub Pushes : ℕ → List Float → ℕ → ℕ → Buffers → List ℕ → ℕ → Buffers → List ℕ → Type 0
Pushes kind numbers count command b = Appending (pushed_of kind numbers count command b) (segment_of kind numbers) count command b
