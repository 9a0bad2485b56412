-- What an accepted plan is: a listing is printed of the path that its text draws. Definitions only.
use Rattle.std.specs.Prelude.{ℕ, ◌≤◌, ◌≡◌, List, Ok, length, drop}
use Rattle.commands.specs.Stored.{letters_of}
use Rattle.commands.specs.declared.command.PathCommand.{PathCommand}
use Rattle.svg.specs.Texts.{commands, commands_of}
use Rattle.path_segment.specs.declared.segments.PathSegment.{PathSegment}
use Rattle.path_drawing.specs.Building.{path, build_of}
use Rattle.text_reader.specs.Plans.{stations, first_line_of}

-- the first line asks for so many stations, the text after it is short enough, reads as at most 256 commands, and these build a path
pub record Accepted (input : List ℕ) : Type 0 where
  pub count : ℕ
  pub next : ℕ
  pub list : List PathCommand
  pub segments : List PathSegment
  pub asks : first_line_of input 0 ≡ Ok (stations count next)
  pub short : length (drop next input) ≤ 4096
  pub reads : commands_of (drop next input) ≡ commands list
  pub few : length (letters_of list) ≤ 256
  pub builds : build_of list ≡ path segments
