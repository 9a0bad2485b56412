-- Demand 3 for splines (change request L11), over the answers themselves: "raw never steps back, starts at 0, ends at 1, and its table entries enclose the target as in demand 3".
-- `Steady` of table_order/specs/Swept.antt says this of any table and any lookup, sentence by sentence; n is 16 for each span. Definitions only.
use Rattle.std.specs.Prelude.{◌≡◌, List, Float, Some, Result, Ok, Err}
use Rattle.answers.specs.declared.refusals.Refusal.{Refusal}
use Rattle.table_order.specs.Swept.{Steady}
use Rattle.polyline.specs.Points.{count_of}
use Rattle.spline.specs.Formula.{spline_sample_of, spline_direction_of}
use Rattle.spline_table.specs.Tables.{last_entry_of}
use Rattle.flight.specs.declared.Flight.{Flight}
use Rattle.spline_query.specs.Queries.{spline_total, spline_flown_of}

-- every call on this spline is answered with segment 0 and a raw parameter, with the sample and the direction at that raw parameter, and the raw parameters meet demand 3
pub record InOrder (points table : List Float) : Type 0 where
  pub raw : Float → Float
  pub answered : (p : Float)
      → spline_flown_of points table p
      ≡ Ok (record { position = spline_sample_of points (raw p); tangent = spline_direction_of points (raw p); segment = Some 0; raw = record { value = raw p } })
  pub steady : Steady (last_entry_of (count_of points)) table (spline_total table) raw

-- What an accepted call shows. It asks nothing of the buffers: that they hold f32 values is what lending them says.
abbrev pub SplineOrdered : Result Flight Refusal → List Float → List Float → Type 0
SplineOrdered (Ok flight) points table = InOrder points table
SplineOrdered (Err refusal) points table = Unit {0}
