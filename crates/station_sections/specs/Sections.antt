-- The sections of a listing that a built path gives (document 01, "The station tool"; document 02, L5). Segments and stations count from 0. Definitions only.
use Rattle.std.specs.Prelude.{ℕ, zero, suc, ◌-◌, ◌≤◌, ◌<◌, ◌≡◌, List, [], ◌++◌, pos, Float, length, get_or}
use Rattle.std.specs.Float.{nan, binary32}
use Rattle.std.specs.Float.Ieee.{div, of_int}
use Rattle.path_stored.specs.Buffers.{Buffers}
use Rattle.path_stored.specs.Stored.{Stored}
use Rattle.path_query.specs.Flights.{flight_of}
use Rattle.station_lines.specs.Lines.{segment_line, station_line}

-- the lines of the numbers below n, in order
unfoldable pub lines_to : (ℕ → List ℕ) → ℕ → List ℕ
lines_to line zero = []
lines_to line (suc n) = lines_to line n ++ line n

-- "Segment: line, quad, cubic, arc or fallback, and running length", and the number of its command (document 02, L5)
unfoldable pub segment_lines : List ℕ → List Float → List ℕ → List ℕ
unfolding lines_to
segment_lines kinds lengths commands = lines_to (λ k. segment_line (get_or kinds k 0) (get_or lengths k nan) (get_or commands k 0)) (length kinds)

-- "progress is k/(n-1)": whole numbers, divided and rounded once
unfoldable pub progress_of : ℕ → ℕ → Float
progress_of n k = div binary32 (of_int binary32 (pos k)) (of_int binary32 (pos (n - 1)))

-- "Station k: k, segment number (a minus sign if none), x, y, tangent; progress is k/(n-1)."
unfoldable pub station_of : Buffers → ℕ → ℕ → List ℕ
station_of b n k =
    let there = flight_of b (progress_of n k) in
    station_line k there.segment there.position there.tangent

unfoldable pub station_lines : Buffers → ℕ → List ℕ
unfolding lines_to station_of
station_lines b n = lines_to (λ k. station_of b n k) n

-- one running length and one command number a segment, of at most 256 segments; a number has at most three digits
pub record Tellable (kinds : List ℕ) (lengths : List Float) (commands : List ℕ) : Type 0 where
  pub one : length lengths ≡ length kinds
  pub told : length commands ≡ length kinds
  pub few : length kinds ≤ 256
  pub small : (k : ℕ) → k < length kinds → get_or commands k 0 < 1000

-- a stored path that may be told, and 2 to 1,000 stations
pub record Ready (b : Buffers) (count : ℕ) : Type 0 where
  pub stored : Stored b
  pub tellable : Tellable b.kinds b.lengths b.commands
  pub least : 2 ≤ count
  pub most : count ≤ 1000
