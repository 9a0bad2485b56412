-- The kinds of a few segments in one number, a lane of eight binary digits for each. Segments count from 0. Definitions only.
use Rattle.std.specs.Prelude.{ℕ, zero, suc, ◌+◌, ◌-◌, ◌*◌, ◌≤◌, ◌<◌, ◌≡◌, List, length, get_or}
use Rattle.path_segment.specs.Segments.{width_of}

-- what is told of so many kinds from one on, in lanes of eight binary digits, the first of them lowest
unfoldable pub laid : (ℕ → ℕ) → List ℕ → ℕ → ℕ → ℕ
laid f kinds at zero = 0
laid f kinds at (suc n) = laid f kinds (suc at) n * 256 + f (get_or kinds at 0)

-- the kind itself
abbrev pub itself : ℕ → ℕ
itself kind = kind

-- its fields above 4, which every kind has
abbrev pub more_fields : ℕ → ℕ
more_fields kind = width_of kind - 4

-- there are eight kinds before one
pub record WordBefore (kinds : List ℕ) (end : ℕ) : Type 0 where
  pub enough : 8 ≤ end
  pub inside : end ≤ length kinds

-- all kinds are known
abbrev pub Known : List ℕ → Type 0
Known kinds = (i : ℕ) → i < length kinds → get_or kinds i 0 < 5

-- the last few of the eight before one
pub record LastFew (kinds : List ℕ) (end few : ℕ) : Type 0 where
  pub word : WordBefore kinds end
  pub short : few ≤ 8
  pub known : Known kinds

-- so many, and at most 8
pub record Eight (few r : ℕ) : Type 0 where
  pub all : few < 8 → r ≡ few
  pub many : 8 ≤ few → r ≡ 8

-- a part of at most 16 segments that ends no nearer to the path's start
pub record Near (kinds : List ℕ) (from to : ℕ) : Type 0 where
  pub order : from ≤ to
  pub short : to ≤ from + 16
  pub enough : 16 ≤ to
  pub inside : to ≤ length kinds
  pub known : Known kinds
