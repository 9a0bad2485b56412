-- A text of at most 65,536 bytes that matches the grammar of an edition is read by the permissive reader, for want of room aside. Assumes nothing.
use Prim.Native.Nat.{ℕ, suc, ◌≤◌}
use mathlib.Core.Path.{◌≡◌, refl}
use mathlib.Core.Bool.{Bool, true, false, ◌||◌}
use mathlib.Core.List.{List}
use mathlib.Core.Logic.{◌⊎◌, inl, inr}
use lib.Dec.{ltb}
use borrow.Author.Tests.{le-ltb}
use lib.ListN.{length}
use Rattle.scan.proofs.ByteLaws.{either_way, clash}
use Rattle.strict_grammar.specs.Grammar.{Matches}
use Rattle.strict_grammar.specs.Words.{past_white_in}
use Rattle.strict_grammar.specs.declared.Edition.{Edition}
use Rattle.strict.proofs.Rests.{to-started, white-found}
use Rattle.commands.specs.Stored.{letters_of, numbers_of}
use Rattle.commands.specs.declared.command.PathCommand.{PathCommand}
use Rattle.svg_step.specs.Steps.{fresh_of}
use Rattle.answers.specs.declared.refusals.Values.TheVariants.{Three}
use Rattle.answers.specs.declared.refusals.Refusal.TheVariants.{NoRoom}
use Rattle.svg.specs.Texts.{commands, refusal, commands_of, offsets_of}
use Rattle.svg.specs.Readings.{read_path_of}
use Rattle.strict_permissive.specs.Read.{ReadOrNoRoom}
use Rattle.strict_permissive.proofs.Follows.{past-white}
use Rattle.strict_permissive.proofs.Passes.{Passes, due-separator, rest-passes, passes-read}

module _ (edition : Edition) (text : List ℕ) (m : Matches edition text) where
  whole-passes : Passes text 0 0 false
  whole-passes =
      let r = to-started edition text (past_white_in edition text 0) refl m in
      rest-passes edition text r 0 0 false (λ z. absurd (clash z refl))
      (past-white edition text 0 (past_white_in edition text 0) (white-found edition text 0 (past_white_in edition text 0) refl).0 (due-separator edition text r))

  matching-reads : (list : List PathCommand) × (commands_of text ≡ commands list)
  unfolding commands_of
  matching-reads = passes-read text whole-passes fresh_of refl refl refl (suc (length text))

  -- "a text that passes edition 1.1 and is at most 65,536 bytes is never refused by the permissive reader for anything but NoRoom"
  pub strict-reads : length text ≤ 65536 → ReadOrNoRoom text
  unfolding read_path_of
  strict-reads short =
      let (list, e) = matching-reads in
      record { list = list; reads = e; into = λ letters numbers offsets. room list e letters numbers offsets (either_way (short-of list letters numbers offsets)) }
    where
      short-of : List PathCommand → ℕ → ℕ → ℕ → Bool
      short-of list letters numbers offsets = ltb letters (length (letters_of list)) || (ltb numbers (length (numbers_of list)) || ltb offsets (length (offsets_of text)))

      room : (list : List PathCommand) → commands_of text ≡ commands list → (letters numbers offsets : ℕ)
          → (short-of list letters numbers offsets ≡ true) ⊎ (short-of list letters numbers offsets ≡ false)
          → (read_path_of text letters numbers offsets ≡ commands list)
          ⊎ (read_path_of text letters numbers offsets ≡ refusal (NoRoom (Three (length (letters_of list)) (length (numbers_of list)) (length (offsets_of text)))))
      room list e letters numbers offsets (inl h) = inr (rw (le-ltb 65536 (length text) short, e, h) refl)
      room list e letters numbers offsets (inr h) = inl (rw (le-ltb 65536 (length text) short, e, h) refl)
