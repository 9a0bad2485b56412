-- The words of the theorems: a sound table or path of f32 values, and the order of pairs. Definitions only.
use Rattle.std.specs.Prelude.{ℕ, ◌<◌, ◌≡◌, ◌⊎◌, List, T, Float}
use Rattle.std.specs.Float.{binary32}
use Rattle.std.specs.Float.Ieee.{le, fits}
use Rattle.table.specs.Lookup.{at}
use Rattle.table.specs.Sound.{SoundTable, SoundPath}

-- a sound table, each entry and the total an f32: what every table of the code is
pub record F32Table (entries : List Float) (total : Float) : Type 0 where
  pub table : SoundTable entries total
  pub values : (k : ℕ) → T (fits binary32 (at entries k))
  pub total-value : T (fits binary32 total)

-- a sound path with a segment, each running length an f32
pub record F32Path (lengths : List Float) : Type 0 where
  pub path : SoundPath lengths
  pub values : (k : ℕ) → T (fits binary32 (at lengths k))

-- "the pair of segment number and raw parameter .. never steps back": a later segment, or the same one and no smaller number
abbrev pub NoStepBack : ℕ → Float → ℕ → Float → Type 0
NoStepBack i x j y = (i < j) ⊎ ((i ≡ j) × T (le x y))
