-- What the entries answer of a stored path (document 01, "A path or spline query: 12 only."). Segments count from 0. Definitions only.
use Rattle.std.specs.Prelude.{ℕ, Bool, true, false, cond, [], ◌∷◌, ltb, eqb, length, Float, Option, Some, None, Result, Ok, Err}
use Rattle.answers.specs.declared.refusals.Refusal.{Refusal}
use Rattle.answers.specs.declared.refusals.Refusal.TheVariants.{BadPath}
use Rattle.answers.specs.Answers.{Answer, accepted, refused}
use Rattle.floats.specs.Floats.{bits_of}
use Rattle.table.specs.Spots.{path_total}
use Rattle.path_stored.specs.declared.queries.Part.{Part}
use Rattle.path_stored.specs.Buffers.{Buffers}
use Rattle.path_stored.specs.Stored.{is_stored, segment_in, table_in}

-- `len`
unfoldable pub counted_of : Buffers → Result ℕ Refusal
unfolding is_stored
counted_of b = cond (is_stored b) (Ok (length b.kinds)) (Err BadPath)

-- `is_empty`
unfoldable pub emptiness_of : Buffers → Result Bool Refusal
unfolding is_stored
emptiness_of b = cond (is_stored b) (Ok (eqb (length b.kinds) 0)) (Err BadPath)

-- `arc_length`: "A path's total is its last running length; 0 stands before its first."
unfoldable pub measured_of : Buffers → Result Float Refusal
unfolding is_stored path_total
measured_of b = cond (is_stored b) (Ok (path_total b.lengths)) (Err BadPath)

-- `segments` at an index; past the last there is none
unfoldable pub part_of : Buffers → ℕ → Result (Option Part) Refusal
unfolding is_stored segment_in table_in
part_of b i =
    cond (is_stored b)
    (Ok (cond (ltb i (length b.kinds)) (Some (record { segment = segment_in b.kinds b.fields i; table = table_in b.kinds b.tables i })) None))
    (Err BadPath)

-- ---- in document 01's terms; a segment's are what a caller makes of it
abbrev pub counted_answer : Result ℕ Refusal → Answer
counted_answer (Ok count) = accepted (count ∷ [])
counted_answer (Err refusal) = refused refusal

-- 1 for a yes, 0 for a no
abbrev pub emptiness_answer : Result Bool Refusal → Answer
emptiness_answer (Ok true) = accepted (1 ∷ [])
emptiness_answer (Ok false) = accepted (0 ∷ [])
emptiness_answer (Err refusal) = refused refusal

-- the bits of the length
abbrev pub measured_answer : Result Float Refusal → Answer
measured_answer (Ok total) = accepted (bits_of total ∷ [])
measured_answer (Err refusal) = refused refusal
