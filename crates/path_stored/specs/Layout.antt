-- A list of segments in the five buffers of a stored path (document 01, "Lengths, tables and lookup"; document 02, L5): the kinds, the fields, the tables and the running lengths, in path
-- units, and the numbers of the commands that made them, which are told beside the segments. Definitions only.
use Rattle.std.specs.Prelude.{ℕ, List, [], ◌∷◌, ◌++◌, Float}
use Rattle.std.specs.Float.{binary32}
use Rattle.std.specs.Float.Ieee.{add}
use Rattle.floats.specs.Floats.{zero_f}
use Rattle.table.specs.Spots.{path_total}
use Rattle.path_segment.specs.declared.segments.PathSegment.{PathSegment}
use Rattle.path_segment.specs.Segments.{kind_of, fields_of, table_stored, length_for}
use Rattle.path_stored.specs.Buffers.{Buffers, buffers}

-- a byte each
unfoldable pub kinds_of : List PathSegment → List ℕ
kinds_of [] = []
kinds_of (segment ∷ segments) = kind_of segment ∷ kinds_of segments

-- "exactly their numbers", segment after segment
unfoldable pub fields_of_all : List PathSegment → List Float
fields_of_all [] = []
fields_of_all (segment ∷ segments) = fields_of segment ++ fields_of_all segments

-- the 33 numbers of each table, where a segment has one
unfoldable pub tables_of_all : List PathSegment → List Float
unfolding table_stored
tables_of_all [] = []
tables_of_all (segment ∷ segments) = table_stored segment ++ tables_of_all segments

-- the running lengths from a start on, each sum rounded once; "0 stands before its first"
unfoldable pub running_of : Float → List PathSegment → List Float
running_of start [] = []
running_of start (segment ∷ segments) = add binary32 start (length_for segment) ∷ running_of (add binary32 start (length_for segment)) segments

unfoldable pub lengths_of_all : List PathSegment → List Float
unfolding running_of
lengths_of_all segments = running_of zero_f segments

-- the buffers of a list, of none, and a path with one segment more or a list of them
abbrev pub laid_wholly : List PathSegment → List ℕ → Buffers
laid_wholly segments commands = buffers (kinds_of segments) (fields_of_all segments) (tables_of_all segments) (lengths_of_all segments) commands

abbrev pub nothing : Buffers
nothing = buffers [] [] [] [] []

abbrev pub extended : Buffers → PathSegment → ℕ → Buffers
extended b segment command =
    buffers (b.kinds ++ kind_of segment ∷ []) (b.fields ++ fields_of segment) (b.tables ++ table_stored segment)
    (b.lengths ++ add binary32 (path_total b.lengths) (length_for segment) ∷ []) (b.commands ++ command ∷ [])

abbrev pub extended_by : Buffers → List PathSegment → List ℕ → Buffers
extended_by b segments commands =
    buffers (b.kinds ++ kinds_of segments) (b.fields ++ fields_of_all segments) (b.tables ++ tables_of_all segments) (b.lengths ++ running_of (path_total b.lengths) segments)
    (b.commands ++ commands)
