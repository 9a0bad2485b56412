-- The stations of a listing (document 01, "The station tool"): in order, and each at its share of the path. Stations count from 0. Definitions only.
use Rattle.std.specs.Prelude.{ℕ, ◌-◌, ◌<◌, false}
use Rattle.decimal_nearest.specs.Nearest.{NearestTo}
use Rattle.path_stored.specs.Buffers.{Buffers}
use Rattle.station_sections.specs.Sections.{progress_of}
use Rattle.station_sections.specs.Ordered.{EnclosedStations}

-- "progress is k/(n-1)": the station k is at the f32 value that is nearest to the fraction, ties to even
pub record StationsAt (b : Buffers) (n : ℕ) : Type 0 where
  pub ordered : EnclosedStations b n
  pub nearest : (k : ℕ) → k < n → NearestTo false k (n - 1) (progress_of n k)
