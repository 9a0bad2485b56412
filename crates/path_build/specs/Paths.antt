-- What a command list builds (document 01, "The answers"; document 02, L5). Definitions only.
use Rattle.std.specs.Prelude.{ℕ, cond, List, [], Result, ltb, length}
use Rattle.answers.specs.declared.refusals.Refusal.{Refusal}
use Rattle.answers.specs.declared.refusals.Refusal.TheVariants.{BadList, Range}
use Rattle.commands.specs.Listed.{Listing, well_formed, malformed}
use Rattle.path_stored.specs.Buffers.{Buffers}
use Rattle.path_drawing.specs.Building.{Built, refusal, build_of, drawers_of}
use Rattle.path_build.specs.Lists.{StoredList, listing_of}
use Rattle.path_build.specs.Answers.{roomed, Answers}
use Rattle.path_storing.specs.declared.sites.Sizes.{Sizes}
use Rattle.path_build.specs.declared.room.Counts.{Counts}

-- "9 over the whole list, then segment by segment 10 before 11"
abbrev pub built_by : Listing → Built
built_by (well_formed commands) = build_of commands
built_by (malformed k) = refusal (BadList k)

-- the numbers of its commands that draw
abbrev pub drawers_by : Listing → List ℕ
drawers_by (well_formed commands) = drawers_of commands
drawers_by (malformed k) = []

-- "13, 9 over the whole list, then segment by segment 10 before 11": 13 is "a command list above 65,536"
unfoldable pub build_list_of : StoredList → Built
build_list_of list = cond (ltb 65536 (length list.letters)) (refusal (Range (length list.letters))) (built_by (listing_of list))

abbrev pub drawers_list_of : StoredList → List ℕ
drawers_list_of list = drawers_by (listing_of list)

-- the places of five buffers
abbrev pub lent_of : Buffers → Counts
lent_of b = record { kinds = length b.kinds; fields = length b.fields; tables = length b.tables; lengths = length b.lengths; commands = length b.commands }

-- "In building: 13, 9 over the whole list, then segment by segment 10 before 11, then 8."
abbrev pub build_path_of : StoredList → Counts → Built
build_path_of list lent = roomed lent (build_list_of list)

-- the entry's one record of equations
abbrev pub BuildPath : StoredList → Buffers → Result Sizes Refusal → Buffers → Type 0
BuildPath list b r b' = Answers (build_path_of list (lent_of b)) (drawers_list_of list) b r b'
