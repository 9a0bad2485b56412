-- What a segment of a stored path gives to C (document 01, "A path or spline query: 12 only."). Definitions only.
use Rattle.std.specs.Prelude.{ℕ, ◌+◌, ◌*◌, ◌≡◌, cond, List, [], ◌∷◌, ◌++◌, ltb, length, Float, Option, Some, None, Result, Ok, Err}
use Rattle.answers.specs.declared.refusals.Values.TheVariants.{One}
use Rattle.answers.specs.declared.refusals.Refusal.{Refusal}
use Rattle.answers.specs.declared.refusals.Refusal.TheVariants.{NoRoom}
use Rattle.answers.specs.Answers.{Answer, accepted, refused}
use Rattle.answers.specs.Report.{written, short}
use Rattle.table.specs.declared.tables.Table.{Table}
use Rattle.path_segment.specs.declared.segments.PathSegment.{PathSegment}
use Rattle.path_segment.specs.Segments.{kind_of, width_of, tables_of, has_table, fields_of, table_numbers}
use Rattle.path_stored.specs.declared.queries.Part.{Part}
use Rattle.path_part.specs.Parts.{position_of, tangent_of, rotation_of}
use Rattle.c_answer.specs.Given.{Given}
use Rattle.c_answer.specs.Places.{place_given, turn_given}

-- ---- a segment's numbers

-- its own, then the 33 of its table where it stores one
unfoldable pub numbers_of : PathSegment → Table → List Float
numbers_of segment table = fields_of segment ++ cond (has_table (kind_of segment)) (table_numbers table) []

-- how many they are
abbrev pub places_of : ℕ → ℕ
places_of kind = width_of kind + 33 * tables_of kind

-- the kind and the count, or 8 with the count; past the last segment nothing is given
abbrev pub segment_answer : Result (Option Part) Refusal → ℕ → Answer
segment_answer (Ok (Some part)) room =
    let kind = kind_of part.segment in
    cond (ltb room (places_of kind)) (refused (NoRoom (One (places_of kind)))) (accepted (kind ∷ places_of kind ∷ []))
segment_answer (Ok None) room = accepted []
segment_answer (Err refusal) room = refused refusal

-- "A refusal writes to no output. An accepted call writes the counted places from each output's start and no others."
abbrev pub segment_written : Result (Option Part) Refusal → List Float → List Float
segment_written (Ok (Some part)) out = cond (ltb (length out) (places_of (kind_of part.segment))) out (written (numbers_of part.segment part.table) out)
segment_written (Ok None) out = out
segment_written (Err refusal) out = out

-- with an answer that is too short nothing is written at all
pub record SegmentGiven (found : Result (Option Part) Refusal) (out : List Float) (answer : List ℕ) (returned : ℕ) (out' : List Float) (answer' : List ℕ) : Type 0 where
  pub reported : Given (segment_answer found (length out)) answer returned answer'
  pub out_after : out' ≡ cond (short answer) out (segment_written found out)

-- ---- its queries

-- what a found segment gives; past the last there is nothing to give
abbrev pub found_given : (Part → Answer) → Result (Option Part) Refusal → Answer
found_given given (Ok (Some part)) = given part
found_given given (Ok None) = accepted []
found_given given (Err refusal) = refused refusal

abbrev pub position_given : Result (Option Part) Refusal → Float → Answer
position_given found along = found_given (λ part. place_given (position_of part.segment part.table along)) found

abbrev pub tangent_given : Result (Option Part) Refusal → Float → Answer
tangent_given found along = found_given (λ part. place_given (tangent_of part.segment part.table along)) found

abbrev pub rotation_given : Result (Option Part) Refusal → Float → Answer
rotation_given found along = found_given (λ part. turn_given (rotation_of part.segment part.table along)) found
