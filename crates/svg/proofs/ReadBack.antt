-- What the reader stores passes the check of a stored list, and reads back to the same commands. Assumes nothing.
use Prim.Native.Nat.{ℕ, ◌≤◌}
use mathlib.Core.Path.{◌≡◌, refl, ap}
use mathlib.Core.Bool.{Bool, true, false, cond, ◌||◌}
use mathlib.Core.List.{List, []}
use native.Mathlib.Omega.{arith}
use borrow.Author.Tests.{ltb-false}
use lib.Dec.{ltb}
use lib.ListN.{length}
use Rattle.answers.specs.Answers.{accepted}
use Rattle.answers.specs.declared.refusals.Values.TheVariants.{Three}
use Rattle.answers.specs.declared.refusals.Refusal.TheVariants.{TooLong, NoRoom}
use Rattle.commands.specs.Stored.{letters_of, numbers_of}
use Rattle.commands.specs.Listed.{well_formed, listed}
use Rattle.commands.specs.Checked.{check_commands_of}
use Rattle.commands.specs.declared.command.PathCommand.{PathCommand}
use Rattle.commands.proofs.ReadBack.{read_back, stored-passes}
use Rattle.svg.specs.Texts.{Outcome, commands, refusal, commands_of, offsets_of}
use Rattle.svg.specs.Readings.{roomed, read_path_of}
use Rattle.svg.proofs.Texts.{commands-few}

-- an accepted list is the text's own
kept : (b : Bool) (places count many : ℕ) (list other : List PathCommand) → cond b (refusal (NoRoom (Three places count many))) (commands list) ≡ commands other → list ≡ other
kept true places count many list other e = let z : ◌≡◌ {A = ℕ} 0 1 = cc in absurd (omega arith)
kept false places count many list other e = cc

module _ (letters numbers offsets : ℕ) (marks : List ℕ) where
  whose : (outcome : Outcome) (list : List PathCommand) → roomed letters numbers offsets marks outcome ≡ commands list → outcome ≡ commands list
  whose (commands own) list e =
      ap commands
      (kept (ltb letters (length (letters_of own)) || (ltb numbers (length (numbers_of own)) || ltb offsets (length marks))) (length (letters_of own))
      (length (numbers_of own)) (length marks) own list e)
  whose (refusal reason) list e = let z : ◌≡◌ {A = ℕ} 0 1 = cc in absurd (omega arith)

module _ (text : List ℕ) (letters numbers offsets : ℕ) (list : List PathCommand) where
  short :
      (b : Bool) → ltb 65536 (length text) ≡ b
      → cond b (refusal (TooLong (length text))) (roomed letters numbers offsets (offsets_of text) (commands_of text)) ≡ commands list
      → length list ≤ 65536
  short true f e = let z : ◌≡◌ {A = ℕ} 0 1 = cc in absurd (omega arith)
  short false f e = omega (arith, ltb-false 65536 (length text) f, commands-few text list (whose letters numbers offsets (offsets_of text) (commands_of text) list e))

  -- what is stored passes the check, and reads back to what was read
  pub read-stored :
      read_path_of text letters numbers offsets ≡ commands list
      → (check_commands_of (letters_of list) (numbers_of list) ≡ accepted []) × (listed 0 (letters_of list) (numbers_of list) ≡ well_formed list)
  unfolding read_path_of
  read-stored e = (stored-passes list (short (ltb 65536 (length text)) refl e), read_back 0 list)
