-- Demand 3 of the stations of a listing (path_place/specs/Demand.antt has the demand): what the printed lines hold, and in which order. Stations and segments count from 0. Definitions only.
use Rattle.std.specs.Prelude.{ℕ, ◌-◌, ◌≤◌, ◌<◌, ◌≡◌, length}
use Rattle.floats.specs.Floats.{zero_f, one_f}
use Rattle.table.specs.Spots.{path_total, spot_of}
use Rattle.table_order.specs.Stated.{NoStepBack}
use Rattle.table_order.specs.Swept.{Inside}
use Rattle.std.specs.Prelude.{Some}
use Rattle.flight.specs.declared.Flight.{Flight}
use Rattle.path_stored.specs.Buffers.{Buffers}
use Rattle.path_place.specs.declared.places.Place.{Place}
use Rattle.path_place.specs.Places.{placed}
use Rattle.path_place.specs.Demand.{target_along, EnclosedBy, SweptBy}
use Rattle.path_query.specs.Flights.{flown_at}
use Rattle.station_lines.specs.Lines.{station_line}
use Rattle.station_sections.specs.Sections.{progress_of, station_of}

-- the sample and the heading of the pair of the station k, at that very pair
abbrev pub flown_by : Buffers → ℕ → ℕ → Place → Flight
flown_by b n k pair = flown_at b pair (spot_of b.lengths (progress_of n k)).progress.value

pub record OrderedStations (b : Buffers) (n : ℕ) : Type 0 where
  -- the pair of segment number and raw parameter at which the station k is
  pub pair : ℕ → Place
  -- "Station k: k, segment number .., x, y, tangent": its line has that segment's number, and the sample and the tangent of the pair
  pub printed : (k : ℕ) → let there = flown_by b n k (pair k) in
      station_of b n k ≡ station_line k (Some (pair k).segment) there.position there.tangent
  -- of two stations the later is no earlier on the path
  pub order : (j k : ℕ) → j ≤ k → k < n → NoStepBack (pair j).segment (pair j).raw.value (pair k).segment (pair k).raw.value
  -- the first is at the first segment's 0, the last at the last one's 1
  pub starts : pair 0 ≡ placed 0 zero_f
  pub ends : pair (n - 1) ≡ placed (length b.kinds - 1) one_f

-- and where the target is above 0 and below the total, the running lengths of its segment enclose it, and so do the entries of that segment's table
pub record EnclosedStations (b : Buffers) (n : ℕ) : Type 0 where
  pub stations : OrderedStations b n
  pub enclosed : (k : ℕ) → Inside (path_total b.lengths) (target_along b.lengths (progress_of n k)) → EnclosedBy b (progress_of n k) (stations.pair k)
  pub swept : (k : ℕ) → Inside (path_total b.lengths) (target_along b.lengths (progress_of n k)) → SweptBy b (progress_of n k) (stations.pair k)
