-- The lines of a plan's commands (document 01, "The station tool"; document 02, L5). Definitions only.
use Rattle.std.specs.Prelude.{ℕ, ◌≤◌, List, [], ◌∷◌, ◌++◌, length}
use Rattle.commands.specs.declared.command.PathCommand.{PathCommand}
use Rattle.svg.specs.Texts.{Outcome, commands, refusal}
use Rattle.station_lines.specs.Lines.{command_line}
use Rattle.station_lines.specs.Put.{PutWithin}

-- a line for each command, with its offset; there are as many offsets as commands
unfoldable pub command_lines : List PathCommand → List ℕ → List ℕ
unfolding command_line
command_lines [] offsets = []
command_lines (command ∷ list) [] = []
command_lines (command ∷ list) (offset ∷ offsets) = command_line command offset ++ command_lines list offsets

-- the path reads, and has at most 256 commands
abbrev pub FewCommands : Outcome → Type 0
FewCommands (commands list) = length list ≤ 256
FewCommands (refusal reason) = ⊥

-- the path reads, and the lines of its commands and their offsets are put
abbrev pub Listed : List ℕ → Outcome → ℕ → List ℕ → List ℕ → ℕ → Type 0
Listed offsets (commands list) from before after next = PutWithin 17920 (command_lines list offsets) from before after next
Listed offsets (refusal reason) from before after next = ⊥
