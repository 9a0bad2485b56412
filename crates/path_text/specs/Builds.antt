-- What a text builds (source document 002, `try_from_svg`; document 01, "The answers"; document 02, L5): reading it and building its commands after each other. A command's number is its index
-- in the list that reading gives. Definitions only.
use Rattle.std.specs.Prelude.{ℕ, ◌≡◌, cond, List, [], Result, Ok, Err, ltb, length}
use Rattle.answers.specs.declared.refusals.Refusal.{Refusal}
use Rattle.answers.specs.declared.refusals.Refusal.TheVariants.{TooLong}
use Rattle.commands.specs.declared.command.PathCommand.{PathCommand}
use Rattle.svg.specs.Texts.{Outcome, commands, refusal as unread, commands_of}
use Rattle.path_stored.specs.Buffers.{Buffers}
use Rattle.path_drawing.specs.Building.{Built, refusal, build_of, drawers_of}
use Rattle.path_build.specs.Answers.{roomed, Answers, measure_of}
use Rattle.path_build.specs.Paths.{lent_of}
use Rattle.path_storing.specs.declared.sites.Sizes.{Sizes}
use Rattle.path_build.specs.declared.room.Counts.{Counts}
use Rattle.path_text.specs.declared.texts.TextRefusal.{TextRefusal}
use Rattle.path_text.specs.declared.texts.TextRefusal.TheVariants.{Unread, Unbuilt}

-- "the first of 2 to 7 in the text", and where it reads "segment by segment 10 before 11"
abbrev pub built_from : Outcome → Built
built_from (commands list) = build_of list
built_from (unread reason) = refusal reason

-- the numbers of the commands that draw
abbrev pub drawers_in : Outcome → List ℕ
drawers_in (commands list) = drawers_of list
drawers_in (unread reason) = []

-- 1, 2 to 7 in the whole text, 10 and 11 segment by segment
unfoldable pub build_read_of : List ℕ → Built
build_read_of text = cond (ltb 65536 (length text)) (refusal (TooLong (length text))) (built_from (commands_of text))

-- then 8
abbrev pub build_text_of : List ℕ → Counts → Built
build_text_of text lent = roomed lent (build_read_of text)

abbrev pub drawers_text_of : List ℕ → List ℕ
drawers_text_of text = drawers_in (commands_of text)

-- the entry's one record of equations
abbrev pub BuildFromText : List ℕ → Buffers → Result Sizes Refusal → Buffers → Type 0
BuildFromText text b r b' = Answers (build_text_of text (lent_of b)) (drawers_text_of text) b r b'

-- what a first pass that stops at the first refusal of either kind finds; one of building may have one of reading after it
abbrev pub Finds : List ℕ → Result Sizes TextRefusal → Type 0
Finds text (Ok sizes) = Ok sizes ≡ measure_of (built_from (commands_of text))
Finds text (Err (Unread reason)) = commands_of text ≡ unread reason
Finds text (Err (Unbuilt reason)) = (list : List PathCommand) → commands_of text ≡ commands list → build_of list ≡ refusal reason
