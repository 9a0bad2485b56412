-- What the permissive reader gives to C. Definitions only.
use Rattle.std.specs.Prelude.{ℕ, ◌≡◌, false, cond, List, get_or, take}
use Rattle.answers.specs.Report.{short}
use Rattle.commands.specs.declared.command.PathCommand.TheVariants.{ClosePath}
use Rattle.commands.specs.Stored.{letters_of, numbers_of}
use Rattle.svg_step.specs.Steps.{origin}
use Rattle.svg.specs.Lists.{CommandList, written_over}
use Rattle.svg.specs.Readings.{read_into, answered, stored_of}
use Rattle.svg.specs.Smooth.{entries_of, commands_in, Smooth}
use Rattle.svg.specs.Told.{Told, starts_of, OwnLetters}
use Rattle.svg_made.specs.Made.{Reads}
use Rattle.c_answer.specs.Given.{Given}

-- the reader's answer is reported, and its commands are stored; with an answer that is too short nothing is read
pub record PathRead (text : List ℕ) (before : CommandList) (answer : List ℕ) (returned : ℕ) (after : CommandList) (answer' : List ℕ) : Type 0 where
  pub reported : Given (answered text (read_into text before)) answer returned answer'
  pub memory : after ≡ cond (short answer) before (written_over (stored_of text (read_into text before)) before)

-- What a call that returns 0 leaves in its buffers, as many places of each as the answer counts: letters and numbers of the text's commands; each of these made by the meaning of its letter, of the
-- nearest values of the numbers after it, with the first control that SVG 1.1 gives S and T; and each offset that of the very letter which made its command.
pub record CommandsKept (text : List ℕ) (after : CommandList) (answer : List ℕ) : Type 0 where
  pub letters : take (get_or answer 0 0) after.letters ≡ letters_of (commands_in (entries_of text))
  pub numbers : take (get_or answer 1 0) after.numbers ≡ numbers_of (commands_in (entries_of text))
  pub made : Reads text 0 0 false origin origin (entries_of text)
  pub smooth : Smooth origin ClosePath (entries_of text)
  pub told : Told text 0 (take (get_or answer 2 0) after.offsets) (entries_of text)
  pub own : OwnLetters text 0 (take (get_or answer 2 0) after.offsets) (starts_of text)

abbrev pub KeptBy : List ℕ → ℕ → CommandList → List ℕ → Type 0
KeptBy text returned after answer = returned ≡ 0 → CommandsKept text after answer
