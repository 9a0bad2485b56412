-- What is due at a place, by cases: one law for each way out of the functions that compute it. Assumes nothing.
use Prim.Native.Nat.{ℕ, ◌+◌, ◌≤◌, ◌<◌}
use mathlib.Core.Path.{◌≡◌, sym, ◌∙◌}
use mathlib.Core.Bool.{Bool, true, false}
use mathlib.Core.List.{List}
use borrow.Author.Tests.{lt-ltb, le-ltb}
use lib.ListN.{length, get_or}
use Rattle.std.specs.Prelude.{Result, Ok, Err}
use Rattle.answers.specs.declared.refusals.Refusal.{Refusal}
use Rattle.answers.specs.declared.refusals.Refusal.TheVariants.{ExpectedNumber, UnsupportedCommand, MissingMoveTo}
use Rattle.scan.specs.Bytes.{among, number_starts}
use Rattle.scan.specs.Runs.{past_separators_of}
use Rattle.svg_group.specs.Letters.{is_letter_of, meaning_of}
use Rattle.svg_group.specs.declared.letters.Kind.{Kind}
use Rattle.svg_group.specs.declared.letters.Letter.TheVariants.{Draws, Closes, Unknown}
use Rattle.svg_step.specs.Steps.{needs_point_of, repeated_of, due_group_of, due_letter_of, due_again_of, due_at_of}
use Rattle.svg_step.specs.declared.steps.Due.{Due}
use Rattle.svg_step.specs.declared.steps.Due.TheVariants.{Done, Close, Group}

-- ---- a group

module _ (text : List ℕ) (at : ℕ) (kind : Kind) (letter first byte : ℕ) (ef : first ≡ past_separators_of text at) (eb : byte ≡ get_or text first 0) where
  pub group-none : among byte number_starts ≡ false → Err (ExpectedNumber at) ≡ due_group_of text at kind letter
  unfolding due_group_of
  group-none starts = simp (sym ef, sym eb, starts)

  pub group-due : among byte number_starts ≡ true → Ok (Group kind letter first) ≡ due_group_of text at kind letter
  unfolding due_group_of
  group-due starts = simp (sym ef, sym eb, starts)

-- ---- a letter

module _ (text : List ℕ) (at letter : ℕ) (placed : Bool) where
  pub letter-unknown : meaning_of letter ≡ Unknown → Err (UnsupportedCommand letter at) ≡ due_letter_of text at letter placed
  unfolding due_letter_of
  letter-unknown e = simp e

  pub letter-closes : meaning_of letter ≡ Closes → Ok (Close (at + 1)) ≡ due_letter_of text at letter placed
  unfolding due_letter_of
  letter-closes e = simp e

  module _ (kind : Kind) (e : meaning_of letter ≡ Draws kind) where
    pub letter-missing : needs_point_of kind ≡ true → placed ≡ false → Err (MissingMoveTo (at + 1)) ≡ due_letter_of text at letter placed
    unfolding due_letter_of
    letter-missing n p = simp (e, n, p)

    pub letter-placed : (due : Result Due Refusal) → needs_point_of kind ≡ true → placed ≡ true → due ≡ due_group_of text (at + 1) kind letter → due ≡ due_letter_of text at letter placed
    unfolding due_letter_of
    letter-placed due n p d = d ∙ simp (e, n, p)

    pub letter-moves : (due : Result Due Refusal) → needs_point_of kind ≡ false → due ≡ due_group_of text (at + 1) kind letter → due ≡ due_letter_of text at letter placed
    unfolding due_letter_of
    letter-moves due n d = d ∙ simp (e, n)

-- ---- no letter

module _ (text : List ℕ) (at letter : ℕ) where
  pub again-unknown : meaning_of letter ≡ Unknown → Err (MissingMoveTo at) ≡ due_again_of text at letter
  unfolding due_again_of
  again-unknown e = simp e

  pub again-closes : meaning_of letter ≡ Closes → Err (MissingMoveTo at) ≡ due_again_of text at letter
  unfolding due_again_of
  again-closes e = simp e

  pub again-draws :
      (kind further : Kind) (due : Result Due Refusal) → meaning_of letter ≡ Draws kind → further ≡ repeated_of kind → due ≡ due_group_of text at further letter
      → due ≡ due_again_of text at letter
  unfolding due_again_of
  again-draws kind further due e r d = d ∙ simp (r, e)

-- ---- either

module _ (text : List ℕ) (at letter : ℕ) (placed : Bool) where
  pub due-done : length text ≤ at → Ok Done ≡ due_at_of text at letter placed
  unfolding due_at_of
  due-done past = simp (le-ltb at (length text) past)

  module _ (inside : at < length text) (due : Result Due Refusal) where
    pub due-letter : is_letter_of (get_or text at 0) ≡ true → due ≡ due_letter_of text at (get_or text at 0) placed → due ≡ due_at_of text at letter placed
    unfolding due_at_of
    due-letter l d = d ∙ simp (lt-ltb at (length text) inside, l)

    pub due-other : is_letter_of (get_or text at 0) ≡ false → due ≡ due_again_of text at letter → due ≡ due_at_of text at letter placed
    unfolding due_at_of
    due-other l d = d ∙ simp (lt-ltb at (length text) inside, l)
