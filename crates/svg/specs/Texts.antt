-- A whole text (document 01, "Permissive reading"): its commands or its first refusal, and how they are stored. Definitions only.
use Rattle.std.specs.Prelude.{ℕ, zero, suc, ◌+◌, ◌*◌, ◌≤◌, ◌<◌, ◌≡◌, List, [], ◌∷◌, ◌++◌, Float, Some, None, Result, Ok, Err, length}
use Rattle.answers.specs.Report.{written}
use Rattle.answers.specs.declared.refusals.Refusal.{Refusal}
use Rattle.commands.specs.Stored.{letters_of, numbers_of}
use Rattle.commands.specs.declared.command.PathCommand.{PathCommand}
use Rattle.svg.specs.Lists.{CommandList, command_list}
use Rattle.svg_step.specs.Steps.{fresh_of, Step, read_step_of}
use Rattle.svg_step.specs.declared.steps.Reader.{Reader}
use Rattle.svg.specs.declared.passes.Stored.{Stored}
use Rattle.svg.specs.declared.passes.Stored.TheVariants.{Whole, Full}
use Rattle.svg.specs.declared.passes.Counts.{Counts}

-- what reading a text gives
pub data Outcome : Type 0 where
  commands : List PathCommand → Outcome
  refusal : Refusal → Outcome

abbrev pub prepend : PathCommand → Outcome → Outcome
prepend command (commands rest) = commands (command ∷ rest)
prepend command (refusal reason) = refusal reason

-- what follows a step, where `rest` reads on
abbrev pub follow : (Reader → Outcome) → Step → Outcome
follow rest (Ok (Some step)) = prepend step.command (rest step.next)
follow rest (Ok None) = commands []
follow rest (Err reason) = refusal reason

-- at most so many steps from a state on
unfoldable pub read_from : ℕ → List ℕ → Reader → Outcome
read_from zero text reader = commands []
read_from (suc steps) text reader = follow (read_from steps text) (read_step_of text reader)

-- each step passes a byte, so that one more than the text has bytes is enough
unfoldable pub commands_of : List ℕ → Outcome
commands_of text = read_from (suc (length text)) text fresh_of

-- ---- the offsets of a text (document 02, L5), counted in its bytes from 0

-- "Each stored command gains the offset of its command letter": the state past a command has it
abbrev pub marked : (Reader → List ℕ) → Step → List ℕ
marked rest (Ok (Some step)) = step.next.offset ∷ rest step.next
marked rest (Ok None) = []
marked rest (Err reason) = []

-- those of at most so many steps from a state on, as the commands are read
unfoldable pub offsets_from : ℕ → List ℕ → Reader → List ℕ
offsets_from zero text reader = []
offsets_from (suc steps) text reader = marked (offsets_from steps text) (read_step_of text reader)

unfoldable pub offsets_of : List ℕ → List ℕ
offsets_of text = offsets_from (suc (length text)) text fresh_of

-- ---- the stored list

-- a text's commands as they are stored
abbrev pub list_of : List ℕ → List PathCommand → CommandList
list_of text list = command_list (letters_of list) (numbers_of list) (offsets_of text)

abbrev pub counts_at : ℕ → ℕ → Counts
counts_at letters numbers = record { letters = letters; numbers = numbers }

-- the counts of the list; there are as many offsets as letters
unfoldable pub measure_of : Outcome → Result Counts Refusal
measure_of (commands list) = Ok (counts_at (length (letters_of list)) (length (numbers_of list)))
measure_of (refusal reason) = Err reason

-- the text reads, and its list has room in two buffers
abbrev pub Room : Outcome → ℕ → ℕ → Type 0
Room (commands list) letters numbers = (length (letters_of list) ≤ letters) × (length (numbers_of list) ≤ numbers)
Room (refusal reason) letters numbers = ⊥

-- the text reads, and its list is stored from the start of each
abbrev pub Filled : Outcome → List ℕ → List Float → List ℕ → List Float → Type 0
Filled (commands list) letters numbers letters' numbers' = (letters' ≡ written (letters_of list) letters) × (numbers' ≡ written (numbers_of list) numbers)
Filled (refusal reason) letters numbers letters' numbers' = ⊥

-- the same in three, where the text has so many offsets
abbrev pub Roomed : List ℕ → Outcome → CommandList → Type 0
Roomed offsets outcome before = Room outcome (length before.letters) (length before.numbers) × (length offsets ≤ length before.offsets)

abbrev pub FilledAll : List ℕ → Outcome → CommandList → CommandList → Type 0
FilledAll offsets outcome before after =
    Filled outcome before.letters before.numbers after.letters after.numbers × (after.offsets ≡ written offsets before.offsets)

-- ---- what the passes know between two commands, and what they tell. No promise of an entry rests on it.

abbrev pub onto : List PathCommand → Outcome → Outcome
onto done (commands rest) = commands (done ++ rest)
onto done (refusal reason) = refusal reason

-- the commands up to a state are known and the offsets of their letters, and enough steps are left for the others
pub record Known (text : List ℕ) (reader : Reader) (done : List PathCommand) : Type 0 where
  pub steps : ℕ
  pub enough : length text < steps + reader.at
  pub whole : commands_of text ≡ onto done (read_from steps text reader)
  pub marks : List ℕ
  pub offsets : offsets_of text ≡ marks ++ offsets_from steps text reader
  pub many : length marks ≡ length (letters_of done)
  pub kept : reader.offset ≤ reader.at

-- they are counted
pub record Counting (text : List ℕ) (reader : Reader) (letter_at at : ℕ) : Type 0 where
  pub done : List PathCommand
  pub known : Known text reader done
  pub letters : letter_at ≡ length (letters_of done)
  pub numbers : at ≡ length (numbers_of done)
  pub letter-le : letter_at ≤ reader.at
  pub at-le : at ≤ 7 * letter_at

-- they are stored from the start of three buffers, which held something else before
pub record Holding (text : List ℕ) (before after : CommandList) (reader : Reader) (letter_at at : ℕ) : Type 0 where
  pub done : List PathCommand
  pub known : Known text reader done
  pub places : letter_at ≡ length (letters_of done)
  pub count : at ≡ length (numbers_of done)
  pub letter-le : letter_at ≤ reader.at
  pub at-le : at ≤ 7 * letter_at
  pub letters_now : after.letters ≡ written (letters_of done) before.letters
  pub numbers_now : after.numbers ≡ written (numbers_of done) before.numbers
  pub offsets_now : after.offsets ≡ written known.marks before.offsets
  pub letters_in : letter_at ≤ length before.letters
  pub numbers_in : at ≤ length before.numbers
  pub offsets_in : letter_at ≤ length before.offsets

-- they are what three lists hold
pub record Begun (text : List ℕ) (held : CommandList) (reader : Reader) : Type 0 where
  pub done : List PathCommand
  pub known : Known text reader done
  pub letters : held.letters ≡ letters_of done
  pub numbers : held.numbers ≡ numbers_of done
  pub offsets : held.offsets ≡ known.marks
  pub letter-le : length held.letters ≤ reader.at
  pub at-le : length held.numbers ≤ 7 * length held.letters

-- all commands of a text are what three lists hold
abbrev pub Held : List ℕ → Outcome → CommandList → Type 0
Held offsets (commands list) held = (held.letters ≡ letters_of list) × (held.numbers ≡ numbers_of list) × (held.offsets ≡ offsets)
Held offsets (refusal reason) held = ⊥

-- how far a text is stored: as a whole, or up to a command that has no room
abbrev pub SaysStored : Result Stored Refusal → List ℕ → CommandList → CommandList → Type 0
SaysStored (Ok (Whole counts)) text before after =
    (Ok counts ≡ measure_of (commands_of text)) × Roomed (offsets_of text) (commands_of text) before × FilledAll (offsets_of text) (commands_of text) before after
SaysStored (Err reason) text before after = Err reason ≡ measure_of (commands_of text)
SaysStored (Ok (Full reader places count)) text before after = Holding text before after reader places count × (Roomed (offsets_of text) (commands_of text) before → ⊥)

pub record Stores (text : List ℕ) (before after : CommandList) (r : Result Stored Refusal) : Type 0 where
  pub said : SaysStored r text before after
