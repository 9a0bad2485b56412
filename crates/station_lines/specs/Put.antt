-- Bytes put at a place of a buffer: they stand there, all else is as it was, and the place past them is returned. What is past the buffer's end
-- is left out (`sets` stores nothing there), and the place returned is the same. Definitions only.
use Rattle.std.specs.Prelude.{ℕ, ◌+◌, ◌≤◌, ◌≡◌, List, length}
use Rattle.std.proofs.lemmas.List.Edits.{sets}

pub record Put (bytes : List ℕ) (at : ℕ) (before after : List ℕ) (next : ℕ) : Type 0 where
  pub memory : after ≡ sets before at bytes
  pub past : next ≡ at + length bytes

-- bytes of which there are at most so many
pub record PutWithin (most : ℕ) (bytes : List ℕ) (at : ℕ) (before after : List ℕ) (next : ℕ) : Type 0 where
  pub put : Put bytes at before after next
  pub within : next ≤ at + most
