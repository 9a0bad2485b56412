-- The three buffers of a command list as one value (document 01, "Permissive reading"; document 02, L5): letters, numbers and offsets travel together in
-- every contract of reading. The code stays on slices. Definitions only.
use Rattle.std.specs.Prelude.{ℕ, List, [], ◌∷◌, Float, length}
use Rattle.std.specs.Borrow.{Bor, MutBor}
use denote.Triple.Both.{Both}
use Rattle.answers.specs.Report.{written}

pub record CommandList : Type 0 where
  pub letters : List ℕ
  pub numbers : List Float
  pub offsets : List ℕ

abbrev pub command_list : List ℕ → List Float → List ℕ → CommandList
command_list letters numbers offsets = record { letters = letters; numbers = numbers; offsets = offsets }

-- lent slices: what a `requires` reads of them
abbrev pub lent : Bor (List ℕ) → Bor (List Float) → Bor (List ℕ) → CommandList
lent letters numbers offsets = command_list letters.now numbers.now offsets.now

-- the same of slices that the function may write
abbrev pub lent_mut : MutBor (List ℕ) → MutBor (List Float) → MutBor (List ℕ) → CommandList
lent_mut letters numbers offsets = command_list letters.now numbers.now offsets.now

-- and what an `ensures` does: what they hold as a function is entered, and as it returns
abbrev Lent : Type 0 → Type 0
Lent A = Both (MutBor (List A)) (MutBor (List A))

abbrev pub before : Lent ℕ → Lent Float → Lent ℕ → CommandList
before letters numbers offsets = lent_mut letters.entry numbers.entry offsets.entry

abbrev pub after : Lent ℕ → Lent Float → Lent ℕ → CommandList
after letters numbers offsets = lent_mut letters.exit numbers.exit offsets.exit

-- nothing in any of them
abbrev pub no_list : CommandList
no_list = command_list [] [] []

-- "the count needed of each output, in the call's order"
abbrev pub counts_of : CommandList → List ℕ
counts_of list = length list.letters ∷ length list.numbers ∷ length list.offsets ∷ []

-- "An accepted call writes the counted places from each output's start and no others."
abbrev pub written_over : CommandList → CommandList → CommandList
written_over list stood = command_list (written list.letters stood.letters) (written list.numbers stood.numbers) (written list.offsets stood.offsets)
