-- Demand 3 of the letter, whole: `demand-3` proves `Demand3` of `specs/Demand.antt` for the lookup of the code, `place_of`, on every stored path of f32 values that has a segment and is longer
-- than 2^-23: in one table it is steady (`steady` of table_order), and so it meets the demand on a path (`steady-meets`). docs/ORDER.md tells why it holds. That the values are f32 is the one
-- premise, `F32Stored`; every call closes it, since lent slices hold f32 values: `path_query::flight` promises the demand and asks nothing.
use Prim.Native.Nat.{ℕ, ◌<◌}
use mathlib.Core.Path.{subst}
use lib.Dec.{T}
use lib.ListN.{length}
use lib.Ieee.{lt}
use Rattle.floats.specs.Floats.{epsilon_f}
use Rattle.table.specs.Lookup.{raw_of}
use Rattle.table.specs.Spots.{path_total}
use Rattle.table_order.specs.Swept.{Steady}
use Rattle.table_order.proofs.Swept.{steady}
use Rattle.path_stored.specs.Buffers.{Buffers}
use Rattle.path_place.specs.Places.{raw_in, raw_for, raw_within, place_in, place_of}
use Rattle.path_place.specs.Demand.{Demand3}
use Rattle.path_place.proofs.AnyLookup.{F32Stored, WaySteady, steady-meets}

-- the lookup of the code in a table of 32 entries
raw-steady : WaySteady raw_of
raw-steady xs total f last = subst (λ (n : ℕ). Steady n xs total (raw_of xs total)) last (steady f)

-- A stored path with a segment, longer than 2^-23.
pub demand-3 : {b : Buffers} → F32Stored b → 0 < length b.kinds → T (lt epsilon_f (path_total b.lengths)) → Demand3 b (place_of b)
unfolding place_in raw_within raw_for raw_in
demand-3 f some long = steady-meets raw_of raw-steady f some long
