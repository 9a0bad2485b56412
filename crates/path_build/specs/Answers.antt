-- What is answered and written where a path is built (document 01, "The answers"; document 02, L5). Counts are of places: kinds, fields, tables, lengths, commands. Definitions
-- only.
use Rattle.std.specs.Prelude.{ℕ, ◌≡◌, Bool, ◌||◌, cond, List, [], ◌∷◌, Option, Some, None, Result, Ok, Err, ltb, length}
use Rattle.answers.specs.Answers.{Answer, refused, accepted}
use Rattle.answers.specs.declared.refusals.Values.TheVariants.{Five}
use Rattle.answers.specs.declared.refusals.Refusal.{Refusal}
use Rattle.answers.specs.declared.refusals.Refusal.TheVariants.{NoRoom}
use Rattle.path_segment.specs.declared.segments.PathSegment.{PathSegment}
use Rattle.path_stored.specs.Buffers.{Buffers}
use Rattle.path_stored.specs.Layout.{kinds_of, fields_of_all, tables_of_all, lengths_of_all}
use Rattle.path_drawing.specs.Building.{Built, path, refusal}
use Rattle.path_storing.specs.Sites.{path_written, Holds}
use Rattle.path_storing.specs.declared.sites.Sizes.{Sizes}
use Rattle.path_build.specs.declared.room.Counts.{Counts}

-- the number and the values of each case: kinds, lengths and commands are one a segment
abbrev pub answer_of : Result Sizes Refusal → Answer
answer_of (Ok sizes) = accepted (sizes.segments ∷ sizes.fields ∷ sizes.tables ∷ sizes.segments ∷ sizes.segments ∷ [])
answer_of (Err reason) = refused reason

-- "a lent output is too short"
abbrev pub is_short : Counts → Counts → Bool
is_short needed lent =
    (((ltb lent.kinds needed.kinds || ltb lent.fields needed.fields) || ltb lent.tables needed.tables) || ltb lent.lengths needed.lengths)
    || ltb lent.commands needed.commands

-- the counts of the defined list; a segment has one command number
abbrev pub counts_of : List PathSegment → Counts
counts_of list =
    record {
      kinds = length (kinds_of list);
      fields = length (fields_of_all list);
      tables = length (tables_of_all list);
      lengths = length (lengths_of_all list);
      commands = length (kinds_of list);
    }

abbrev pub values : Counts → List ℕ
values counts = counts.kinds ∷ counts.fields ∷ counts.tables ∷ counts.lengths ∷ counts.commands ∷ []

-- 8: "all else is right and a lent output is too short", with "the count needed of each output, in the call's order"
abbrev pub roomed : Counts → Built → Built
roomed lent (path list) =
    cond (is_short (counts_of list) lent)
    (refusal (NoRoom (Five (counts_of list).kinds (counts_of list).fields (counts_of list).tables (counts_of list).lengths (counts_of list).commands)))
    (path list)
roomed lent (refusal reason) = refusal reason

-- an accepted call answers with the counts of the defined list
abbrev pub answered : Built → Answer
answered (path list) = accepted (values (counts_of list))
answered (refusal reason) = refused reason

-- "A refusal writes to no output. An accepted call writes the counted places from each output's start and no others."
abbrev pub segments_written : Built → List PathSegment
segments_written (path list) = list
segments_written (refusal reason) = []

abbrev pub numbers_written : Built → List ℕ → List ℕ
numbers_written (path list) drawers = drawers
numbers_written (refusal reason) drawers = []

-- what is built is answered and written, with the numbers of the commands that draw
pub record Answers (built : Built) (drawers : List ℕ) (b : Buffers) (r : Result Sizes Refusal) (b' : Buffers) : Type 0 where
  pub answer : answer_of r ≡ answered built
  pub after : b' ≡ path_written (segments_written built) (numbers_written built drawers) b

-- ---- what the passes ask and leave

-- the places that a path of so many segments needs; kinds, lengths and commands are one a segment
abbrev pub needed_of : Sizes → Counts
needed_of sizes = record { kinds = sizes.segments; fields = sizes.fields; tables = sizes.tables; lengths = sizes.segments; commands = sizes.segments }

-- what is answered to what a first pass tells, where the buffers have these places
abbrev pub building_of : Result Sizes Refusal → Counts → Result Sizes Refusal
building_of (Err reason) lent = Err reason
building_of (Ok sizes) lent =
    cond (is_short (needed_of sizes) lent) (Err (NoRoom (Five sizes.segments sizes.fields sizes.tables sizes.segments sizes.segments))) (Ok sizes)

abbrev pub sizes_of : ℕ → ℕ → ℕ → Sizes
sizes_of segments fields tables = record { segments = segments; fields = fields; tables = tables }

-- the counts of what is built, or why it is not
unfoldable pub measure_of : Built → Result Sizes Refusal
measure_of (path list) = Ok (sizes_of (length (kinds_of list)) (length (fields_of_all list)) (length (tables_of_all list)))
measure_of (refusal reason) = Err reason

-- what a count that measures nothing tells of what is built, where it tells anything
abbrev pub Foretells : Built → Option Sizes → Type 0
Foretells built (Some sizes) = Ok sizes ≡ measure_of built
Foretells built None = Unit {0}

-- it builds, and has room in the buffers
abbrev pub Holding : Built → Buffers → Type 0
Holding (path list) b = Holds list b
Holding (refusal reason) b = ⊥

-- it builds, and its segments and the numbers of their commands are stored from the start of each buffer
abbrev pub Filled : Built → List ℕ → Buffers → Buffers → Type 0
Filled (path list) drawers b b' = b' ≡ path_written list drawers b
Filled (refusal reason) drawers b b' = ⊥
