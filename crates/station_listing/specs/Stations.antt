-- The station tool's output (document 01, "The station tool"; document 02, L5): from the bytes of standard input to those of standard output. Definitions only.
use Rattle.std.specs.Prelude.{ℕ, ◌≤◌, ◌≡◌, Bool, cond, List, [], ◌∷◌, ◌++◌, Result, Ok, Err, ltb, length, take, drop}
use Rattle.answers.specs.Report.{written}
use Rattle.answers.specs.declared.refusals.Values.TheVariants.{Three}
use Rattle.answers.specs.declared.refusals.Refusal.{Refusal}
use Rattle.answers.specs.declared.refusals.Refusal.TheVariants.{TooLong, NoRoom}
use Rattle.commands.specs.Stored.{letters_of, numbers_of}
use Rattle.commands.specs.declared.command.PathCommand.{PathCommand}
use Rattle.svg.specs.Texts.{Outcome, commands, refusal, commands_of, offsets_of}
use Rattle.path_stored.specs.Buffers.{Buffers}
use Rattle.path_stored.specs.Layout.{laid_wholly}
use Rattle.path_drawing.specs.Building.{Built, path, refusal as unbuilt, build_of, drawers_of}
use Rattle.path_build.specs.Lists.{StoredList, list_for}
use Rattle.text_reader.specs.Plans.{first_line_of, past_of}
use Rattle.text_reader.specs.declared.line.FirstLine.{FirstLine}
use Rattle.station_lines.specs.Lines.{header_line, refusal_line}
use Rattle.station_lines.specs.Put.{PutWithin}
use Rattle.station_commands.specs.Passes.{command_lines}
use Rattle.station_sections.specs.Sections.{segment_lines, station_lines}

-- the words of the three sections
abbrev pub commands_word : List ℕ
commands_word = 99 ∷ 111 ∷ 109 ∷ 109 ∷ 97 ∷ 110 ∷ 100 ∷ 115 ∷ []

abbrev pub segments_word : List ℕ
segments_word = 115 ∷ 101 ∷ 103 ∷ 109 ∷ 101 ∷ 110 ∷ 116 ∷ 115 ∷ []

abbrev pub stations_word : List ℕ
stations_word = 115 ∷ 116 ∷ 97 ∷ 116 ∷ 105 ∷ 111 ∷ 110 ∷ 115 ∷ []

-- "Output, each section after its count": of the commands, their offsets and what they build
unfoldable pub sections_of : List PathCommand → List ℕ → Buffers → ℕ → List ℕ
sections_of list offsets b count =
    header_line commands_word (length list)
    ++ (command_lines list offsets
    ++ (header_line segments_word (length b.kinds)
    ++ (segment_lines b.kinds b.lengths b.commands
    ++ (header_line stations_word count
    ++ station_lines b count))))

-- what is built: its listing, or 10 or 11
abbrev pub built_of : ℕ → List PathCommand → List ℕ → Built → List ℕ
built_of count list offsets (path segments) = sections_of list offsets (laid_wholly segments (drawers_of list)) count
built_of count list offsets (unbuilt reason) = refusal_line reason

-- "more commands are 8 with the letters, then the numbers needed", then the offsets (document 02, L5)
unfoldable pub read_of : ℕ → List ℕ → Outcome → List ℕ
read_of count offsets (commands list) =
    cond (ltb 256 (length (letters_of list))) (refusal_line (NoRoom (Three (length (letters_of list)) (length (numbers_of list)) (length offsets))))
    (built_of count list offsets (build_of list))
read_of count offsets (refusal reason) = refusal_line reason

-- "Longer text is 1 with 4097"
unfoldable pub plan_of : ℕ → List ℕ → List ℕ
plan_of count text = cond (ltb 4096 (length text)) (refusal_line (TooLong 4097)) (read_of count (offsets_of text) (commands_of text))

-- "The first line is judged first"
abbrev pub judged_of : List ℕ → Result FirstLine Refusal → List ℕ
judged_of input (Ok line) = plan_of line.count (drop line.next input)
judged_of input (Err reason) = refusal_line reason

unfoldable pub stations_of : List ℕ → List ℕ
stations_of input = judged_of input (first_line_of input 0)

-- the first line of a plan, and the place past it
pub record LineRead (input : List ℕ) (start : ℕ) (line : Result FirstLine Refusal) : Type 0 where
  pub is : line ≡ first_line_of input 0
  pub past : start ≡ past_of line 0

-- the output is shorter than the listing
abbrev pub short : List ℕ → List ℕ → Bool
short input output = ltb (length output) (length (stations_of input))

-- how many places the listing takes: 69,632 are enough for each
pub record Takes (input : List ℕ) (r : ℕ) : Type 0 where
  pub count : r ≡ length (stations_of input)
  pub most : r ≤ 69632

-- the listing is written from the output's start; into a short output nothing is
pub record Stations (input before : List ℕ) (r : ℕ) (after : List ℕ) : Type 0 where
  pub takes : Takes input r
  pub bytes : after ≡ cond (short input before) before (written (stations_of input) before)

-- the listing of ANY input of which the read bytes are the start, as much of it as the lent places take
abbrev pub ReadListed : List ℕ → ℕ → List ℕ → ℕ → List ℕ → Type 0
ReadListed plan size before r after = (input : List ℕ) → take (length plan) input ≡ take size plan → Stations input before r after

-- ---- what the parts ask and leave

-- the text is short enough and reads, and this is the list of its commands, at most 256
pub record Held (text : List ℕ) (held : StoredList) : Type 0 where
  pub short : length text ≤ 4096
  pub list : List PathCommand
  pub reads : commands_of text ≡ commands list
  pub own : held ≡ list_for list
  pub few : length list ≤ 256

-- the same of so many commands, wherever they stand
pub record Sized (text : List ℕ) (places : ℕ) : Type 0 where
  pub short : length text ≤ 4096
  pub list : List PathCommand
  pub reads : commands_of text ≡ commands list
  pub count : places ≡ length list
  pub few : length list ≤ 256

-- the text reads, and its three sections are put from the start
pub record Printed (text : List ℕ) (b : Buffers) (count : ℕ) (before after : List ℕ) (r : ℕ) : Type 0 where
  pub list : List PathCommand
  pub reads : commands_of text ≡ commands list
  pub put : PutWithin 69632 (sections_of list (offsets_of text) b count) 0 before after r
