-- What a C caller of `kihavute_spline_flight` holds: on a spline longer than 2^-23 the raw parameter at its place in `answer` is where the table's entries put the target. Order and ends are in
-- kihavute_curves/proofs/Receiving.antt. Assumes nothing.
use Prim.Native.Nat.{ℕ}
use mathlib.Core.Path.{◌≡◌}
use mathlib.Core.List.{List}
use lib.Dec.{T}
use lib.ListN.{get_or}
use lib.Ieee.{Float, lt}
use Rattle.floats.specs.Floats.{epsilon_f, bits_of}
use Rattle.table.specs.Lookup.{target_of}
use Rattle.table_order.specs.Swept.{Swept}
use Rattle.polyline.specs.Points.{count_of}
use Rattle.spline_table.specs.Tables.{last_entry_of}
use Rattle.spline_query.specs.Queries.{spline_total}
use Rattle.kihavute_curves.specs.Received.{SplineReceived}

pub spline-received-enclosed : (points table : List Float) (p : Float) (after : List ℕ) → SplineReceived points table p after → T (lt epsilon_f (spline_total table))
    → (x : Float) × (get_or after 5 0 ≡ bits_of x) × Swept (last_entry_of (count_of points)) table (spline_total table) (target_of (spline_total table) p) x
spline-received-enclosed points table p after c long = (c.calls.raw p, c.holds.raw, c.calls.steady.swept p long)
