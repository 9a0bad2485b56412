-- The offsets of a text beside its commands and the letters that made them (document 02, L5). Definitions only.
use Rattle.std.specs.Prelude.{ℕ, zero, suc, ◌≤◌, ◌<◌, ◌≡◌, true, false, List, [], ◌∷◌, Some, None, Ok, Err, length, get_or}
use Rattle.scan.specs.Runs.{past_separators_of}
use Rattle.svg_group.specs.Letters.{is_letter_of}
use Rattle.svg_step.specs.Steps.{fresh_of, Step, read_step_of}
use Rattle.svg_step.specs.declared.steps.Reader.{Reader}
use Rattle.svg.specs.Smooth.{Entry}

-- one offset for each command, none below the one before it: it is within the text, and the byte there is the letter that made the command
abbrev pub Told : List ℕ → ℕ → List ℕ → List Entry → Type 0
Told text low [] [] = Unit
Told text low [] (entry ∷ entries) = ⊥
Told text low (offset ∷ offsets) [] = ⊥
Told text low (offset ∷ offsets) (entry ∷ entries) =
    (low ≤ offset) × (offset < length text) × (get_or text offset 0 ≡ entry.letter) × (is_letter_of entry.letter ≡ true) × Told text offset offsets entries

-- ---- the very letter, where a byte equal to it stands before it

-- where each command of a text starts, past separators
abbrev pub started : ℕ → (Reader → List ℕ) → Step → List ℕ
started at rest (Ok (Some step)) = at ∷ rest step.next
started at rest (Ok None) = []
started at rest (Err reason) = []

unfoldable pub starts_from : ℕ → List ℕ → Reader → List ℕ
starts_from zero text reader = []
starts_from (suc steps) text reader = started (past_separators_of text reader.at) (starts_from steps text) (read_step_of text reader)

unfoldable pub starts_of : List ℕ → List ℕ
starts_of text = starts_from (suc (length text)) text fresh_of

-- a command that starts with a letter has that letter's place, and one that repeats has the place of the command before it
abbrev pub OwnLetters : List ℕ → ℕ → List ℕ → List ℕ → Type 0
OwnLetters text last [] [] = Unit
OwnLetters text last [] (start ∷ starts) = ⊥
OwnLetters text last (offset ∷ offsets) [] = ⊥
OwnLetters text last (offset ∷ offsets) (start ∷ starts) =
    (is_letter_of (get_or text start 0) ≡ true → offset ≡ start) × (is_letter_of (get_or text start 0) ≡ false → offset ≡ last) × OwnLetters text offset offsets starts
