-- A text that reads has an offset for each of its letters. Assumes nothing.
use Prim.Native.Nat.{ℕ, zero, suc}
use mathlib.Core.Path.{◌≡◌, refl, ap, ◌∙◌}
use mathlib.Core.List.{List, [], ◌∷◌}
use native.Mathlib.Omega.{arith}
use lib.ListN.{length}
use Rattle.std.specs.Prelude.{Some, None, Ok, Err}
use Rattle.commands.specs.Stored.{letters_of}
use Rattle.commands.specs.declared.command.PathCommand.{PathCommand}
use Rattle.svg_step.specs.Steps.{fresh_of, Step, read_step_of}
use Rattle.svg_step.specs.declared.steps.Reader.{Reader}
use Rattle.svg.specs.Texts.{Outcome, commands, refusal, prepend, follow, read_from, commands_of, marked, offsets_from, offsets_of}

module _ (text : List ℕ) where
  many-after :
      (rest : Outcome) (offsets : List ℕ) (offset : ℕ) (command : PathCommand) (list : List PathCommand)
      → ((more : List PathCommand) → rest ≡ commands more → length offsets ≡ length (letters_of more))
      → prepend command rest ≡ commands list
      → length (offset ∷ offsets) ≡ length (letters_of list)
  unfolding letters_of
  many-after (commands more) offsets offset command list f e =
      let g : command ∷ more ≡ list = cc in
      ap suc (f more refl) ∙ ap (λ l. length (letters_of l)) g
  many-after (refusal reason) offsets offset command list f e = let z : ◌≡◌ {A = ℕ} 0 1 = cc in absurd (omega arith)

  many-from : (steps : ℕ) (reader : Reader) (list : List PathCommand) → read_from steps text reader ≡ commands list → length (offsets_from steps text reader) ≡ length (letters_of list)
  unfolding read_from offsets_from letters_of
  many-from zero reader list e = let f : [] ≡ list = cc in ap (λ l. length (letters_of l)) f
  many-from (suc steps) reader list e = by-step (many-from steps) (read_step_of text reader) e
    where
      by-step :
          ((next : Reader) (more : List PathCommand) → read_from steps text next ≡ commands more → length (offsets_from steps text next) ≡ length (letters_of more))
          → (step : Step) → follow (read_from steps text) step ≡ commands list → length (marked (offsets_from steps text) step) ≡ length (letters_of list)
      by-step rest (Ok (Some step)) e = many-after (read_from steps text step.next) (offsets_from steps text step.next) step.next.offset step.command list (rest step.next) e
      by-step rest (Ok None) e = let f : [] ≡ list = cc in ap (λ l. length (letters_of l)) f
      by-step rest (Err reason) e = let z : ◌≡◌ {A = ℕ} 0 1 = cc in absurd (omega arith)

  pub offsets-many : (list : List PathCommand) → commands_of text ≡ commands list → length (offsets_of text) ≡ length (letters_of list)
  unfolding commands_of offsets_of
  offsets-many list e = many-from (suc (length text)) fresh_of list e
