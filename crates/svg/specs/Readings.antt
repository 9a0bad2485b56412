-- The answer of the reader's entry (document 01, "The answers"; document 02, L5). Definitions only.
use Rattle.std.specs.Prelude.{ℕ, ◌≤◌, ◌≡◌, ◌||◌, cond, List, [], ◌∷◌, Result, Ok, Err, ltb, length}
use Rattle.answers.specs.Answers.{Answer, refused, accepted}
use Rattle.answers.specs.declared.refusals.Values.TheVariants.{Three}
use Rattle.answers.specs.declared.refusals.Refusal.{Refusal}
use Rattle.answers.specs.declared.refusals.Refusal.TheVariants.{TooLong, NoRoom}
use Rattle.commands.specs.Stored.{letters_of, numbers_of}
use Rattle.svg.specs.Lists.{CommandList, no_list, counts_of, written_over}
use Rattle.svg.specs.declared.passes.Counts.{Counts}
use Rattle.svg.specs.Texts.{Outcome, commands, refusal, commands_of, offsets_of, list_of, Held}

-- the number and the values of each case; an offset is stored for each letter
abbrev pub answer_of : Result Counts Refusal → Answer
answer_of (Ok counts) = accepted (counts.letters ∷ counts.numbers ∷ counts.letters ∷ [])
answer_of (Err reason) = refused reason

-- 8: "all else is right and a lent output is too short", "also when the third buffer is short", with "the count needed of each output, in the call's order"
abbrev pub roomed : ℕ → ℕ → ℕ → List ℕ → Outcome → Outcome
roomed letters numbers offsets marks (commands list) =
    let places = length (letters_of list) in
    let count = length (numbers_of list) in
    cond (ltb letters places || (ltb numbers count || ltb offsets (length marks))) (refusal (NoRoom (Three places count (length marks)))) (commands list)
roomed letters numbers offsets marks (refusal reason) = refusal reason

-- "Order in reading: 1, then the first of 2 to 7 in the text, then 8.": a text into buffers of so many letters, numbers and offsets
unfoldable pub read_path_of : List ℕ → ℕ → ℕ → ℕ → Outcome
read_path_of text letters numbers offsets =
    cond (ltb 65536 (length text)) (refusal (TooLong (length text))) (roomed letters numbers offsets (offsets_of text) (commands_of text))

-- a text into the buffers that are lent
abbrev pub read_into : List ℕ → CommandList → Outcome
read_into text before = read_path_of text (length before.letters) (length before.numbers) (length before.offsets)

-- an accepted call answers with the counts of the defined list
abbrev pub answered : List ℕ → Outcome → Answer
answered text (commands list) = accepted (counts_of (list_of text list))
answered text (refusal reason) = refused reason

-- "A refusal writes to no output."
abbrev pub stored_of : List ℕ → Outcome → CommandList
stored_of text (commands list) = list_of text list
stored_of text (refusal reason) = no_list

pub record ReadPath (text : List ℕ) (before : CommandList) (r : Result Counts Refusal) (after : CommandList) : Type 0 where
  pub answer : answer_of r ≡ answered text (read_into text before)
  pub memory : after ≡ written_over (stored_of text (read_into text before)) before

-- the answer for any text whose commands three lists hold
pub record Gives (held before : CommandList) (r : Result Counts Refusal) (after : CommandList) : Type 0 where
  pub said : (text : List ℕ) → length text ≤ 65536 → Held (offsets_of text) (commands_of text) held → ReadPath text before r after
