-- A text that the permissive reader refuses for nothing but NoRoom (document 02, L10). Definitions only.
use Rattle.std.specs.Prelude.{ℕ, ◌≡◌, ◌⊎◌, List, length}
use Rattle.answers.specs.declared.refusals.Values.TheVariants.{Three}
use Rattle.answers.specs.declared.refusals.Refusal.TheVariants.{NoRoom}
use Rattle.commands.specs.Stored.{letters_of, numbers_of}
use Rattle.commands.specs.declared.command.PathCommand.{PathCommand}
use Rattle.svg.specs.Texts.{commands, refusal, commands_of, offsets_of}
use Rattle.svg.specs.Readings.{read_path_of}

-- "never refused by the permissive reader for anything but NoRoom": the text has commands, and into buffers of any size it gives these or NoRoom with
-- the counts that they need
pub record ReadOrNoRoom (text : List ℕ) : Type 0 where
  pub list : List PathCommand
  pub reads : commands_of text ≡ commands list
  pub into :
      (letters numbers offsets : ℕ)
      → (read_path_of text letters numbers offsets ≡ commands list)
      ⊎ (read_path_of text letters numbers offsets ≡ refusal (NoRoom (Three (length (letters_of list)) (length (numbers_of list)) (length (offsets_of text)))))
