-- The fields and the tables of a part of a path: its segments from one on to before another, counted from 0. Definitions only.
use Rattle.std.specs.Prelude.{ℕ, ◌+◌, ◌≤◌, ◌≡◌, cond, List, leb, length}
use Rattle.path_stored.specs.Stored.{before, most_segments}

-- a part of a path
pub record Span (kinds : List ℕ) (from to : ℕ) : Type 0 where
  pub few : length kinds ≤ most_segments
  pub order : from ≤ to
  pub inside : to ≤ length kinds

-- one of at most 128 segments, which a byte can count
pub record ShortSpan (kinds : List ℕ) (from to : ℕ) : Type 0 where
  pub span : Span kinds from to
  pub short : to ≤ from + 128

-- the segments of the part have so many in all: what stands before its end is what stands before its start and these
abbrev pub Adds : (ℕ → ℕ) → List ℕ → ℕ → ℕ → ℕ → Type 0
Adds f kinds from to sum = before f kinds from + sum ≡ before f kinds to

-- 1 for a kind from `least` on
abbrev pub one_from : ℕ → ℕ → ℕ
one_from least kind = cond (leb least kind) 1 0

-- the next part of a longer one
pub record ShortStep (at to end : ℕ) : Type 0 where
  pub further : at + 1 ≤ end
  pub within : end ≤ to
  pub short : end ≤ at + 128
