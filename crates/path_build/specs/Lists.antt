-- A command list as one value (document 01, "Permissive reading" and "The answers"): its letters and its numbers travel together in every contract of building, which reads no
-- offsets (document 02, L5). The code stays on slices. Definitions only.
use Rattle.std.specs.Prelude.{ℕ, ◌≡◌, List, [], Float}
use Rattle.std.specs.Borrow.{Bor}
use denote.Triple.Both.{Both}
use Rattle.answers.specs.Answers.{accepted}
use Rattle.commands.specs.Stored.{letters_of, numbers_of}
use Rattle.commands.specs.Listed.{Listing, listed}
use Rattle.commands.specs.Checked.{check_commands_of}
use Rattle.commands.specs.declared.command.PathCommand.{PathCommand}

pub record StoredList : Type 0 where
  pub letters : List ℕ
  pub numbers : List Float

abbrev pub stored_list : List ℕ → List Float → StoredList
stored_list letters numbers = record { letters = letters; numbers = numbers }

-- lent slices: what a `requires` reads of them
abbrev pub lent_list : Bor (List ℕ) → Bor (List Float) → StoredList
lent_list letters numbers = stored_list letters.now numbers.now

-- and what an `ensures` does: what they hold as a function is entered
abbrev Lent : Type 0 → Type 0
Lent A = Both (Bor (List A)) (Bor (List A))

abbrev pub given_list : Lent ℕ → Lent Float → StoredList
given_list letters numbers = lent_list letters.entry numbers.entry

-- the list that commands are stored as
abbrev pub list_for : List PathCommand → StoredList
list_for commands = stored_list (letters_of commands) (numbers_of commands)

-- a list read back: its commands, or the number of the command at which it is malformed
abbrev pub listing_of : StoredList → Listing
listing_of list = listed 0 list.letters list.numbers

-- it passes the check
abbrev pub WellFormed : StoredList → Type 0
WellFormed list = check_commands_of list.letters list.numbers ≡ accepted []
