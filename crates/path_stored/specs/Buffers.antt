-- The five buffers of a stored path as one value (document 01, "Lengths, tables and lookup"; document 02, L5): kinds, fields, tables, running lengths and command numbers travel together in
-- every contract; `Paths.antt` has what the code holds of them. Definitions only.
use Rattle.std.specs.Prelude.{ℕ, List, Float}
use Rattle.std.specs.Borrow.{Bor, MutBor}
use denote.Triple.Both.{Both}

pub record Buffers : Type 0 where
  pub kinds : List ℕ
  pub fields : List Float
  pub tables : List Float
  pub lengths : List Float
  -- the number of each segment's command, from 0
  pub commands : List ℕ

abbrev pub buffers : List ℕ → List Float → List Float → List Float → List ℕ → Buffers
buffers kinds fields tables lengths commands = record { kinds = kinds; fields = fields; tables = tables; lengths = lengths; commands = commands }

-- lent slices: what a `requires` reads of them
abbrev pub lent : Bor (List ℕ) → Bor (List Float) → Bor (List Float) → Bor (List Float) → Bor (List ℕ) → Buffers
lent kinds fields tables lengths commands = buffers kinds.now fields.now tables.now lengths.now commands.now

abbrev pub lent_mut : MutBor (List ℕ) → MutBor (List Float) → MutBor (List Float) → MutBor (List Float) → MutBor (List ℕ) → Buffers
lent_mut kinds fields tables lengths commands = buffers kinds.now fields.now tables.now lengths.now commands.now

-- and what an `ensures` does: what they hold as a function is entered, and as it returns
abbrev Lent : Type 0 → Type 0
Lent A = Both (Bor (List A)) (Bor (List A))

abbrev pub before : Lent ℕ → Lent Float → Lent Float → Lent Float → Lent ℕ → Buffers
before kinds fields tables lengths commands = lent kinds.entry fields.entry tables.entry lengths.entry commands.entry

-- the same of slices that the function may write
abbrev LentMut : Type 0 → Type 0
LentMut A = Both (MutBor (List A)) (MutBor (List A))

abbrev pub before_mut : LentMut ℕ → LentMut Float → LentMut Float → LentMut Float → LentMut ℕ → Buffers
before_mut kinds fields tables lengths commands = lent_mut kinds.entry fields.entry tables.entry lengths.entry commands.entry

abbrev pub after : LentMut ℕ → LentMut Float → LentMut Float → LentMut Float → LentMut ℕ → Buffers
after kinds fields tables lengths commands = lent_mut kinds.exit fields.exit tables.exit lengths.exit commands.exit
