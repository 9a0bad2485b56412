-- Demand 3 for splines: the raw parameter that `spline_flight` answers, and at which it samples, never steps back, starts at 0, ends at 1, and lies between the marks of the two entries
-- that enclose the target. It holds of every sound spline, and a table that was made is one. The law over the number of entries is `steady` of table_order, which a curve's 32 entries cite
-- too. Assumes nothing.
use mathlib.Core.Path.{◌≡◌, ap, ◌∙◌, subst}
use mathlib.Core.Bool.{true, not}
use mathlib.Core.List.{List}
use Prim.Native.Nat.{ℕ, ◌+◌}
use native.Mathlib.Omega.{arith}
use borrow.Author.Tests.{eq-eqb, le-leb}
use lib.Dec.{T, leb, eqb}
use lib.ListN.{length}
use lib.Ieee.{Float, binary32, fits}
use Rattle.floats.proofs.Tests.{cond_yes}
use Rattle.table.specs.Lookup.{at, last_of}
use Rattle.table_order.specs.Swept.{Steady}
use Rattle.table_order.proofs.Swept.{steady}
use Rattle.std.specs.Prelude.{Ok}
use Rattle.polyline.specs.Points.{count_of}
use Rattle.polyline.specs.Judging.{is_odd}
use Rattle.spline_table.specs.Tables.{last_entry_of, most_points, entries, spline_table_of}
use Rattle.spline_table.proofs.Made.{accepted-when, entries-count, made_table}
use Rattle.spline_query.specs.Queries.{spline_total, spline_is_sound, spline_raw, spline_flight_of, spline_flown_of}
use Rattle.spline_query.specs.Ordered.{InOrder}
use Rattle.spline_query.proofs.Checking.{sound-spline, sound-table}

-- ---- a stored spline: what is lent as f32 values, and passes the check
module _ (points table : List Float) (sound : T (spline_is_sound points table)) (values : (k : ℕ) → T (fits binary32 (at table k))) where
  pub spline-steady : Steady (last_of table) table (spline_total table) (spline_raw table)
  spline-steady = steady (record { table = sound-table (sound-spline points table sound); values = values; total-value = values _ })

  -- every call is answered, at the raw parameter of the lookup
  spline-flown : (p : Float) → spline_flown_of points table p ≡ Ok (spline_flight_of points table p)
  unfolding spline_flown_of
  spline-flown p = cond_yes (spline_is_sound points table) (Ok (spline_flight_of points table p)) _ sound

  pub spline-in-order : InOrder points table
  unfolding spline_flight_of
  spline-in-order =
      let c = (sound-spline points table sound).counted in
      let last : last_of table ≡ last_entry_of (count_of points) = omega arith in
      record { raw = spline_raw table; answered = spline-flown; steady = subst (λ (n : ℕ). Steady n table (spline_total table) (spline_raw table)) last spline-steady }

-- ---- a made spline: what `spline_table` stored passes the check, and is steady
module _ (points : List Float) (room : ℕ) (stored : List Float) (made : spline_table_of points room ≡ entries stored) where
  pub made-steady : Steady (last_of stored) stored (spline_total stored) (spline_raw stored)
  made-steady = steady (made_table points room stored made)

  pub made-sound : T (spline_is_sound points stored)
  unfolding spline_is_sound
  made-sound =
      let a = accepted-when points stored room made in
      let even : not (is_odd points) ≡ true = ap not a.even in
      let size : length stored ≡ last_entry_of (count_of points) + 1 = ap length a.whole ∙ entries-count points in
      let few : leb (count_of points) most_points ≡ true = le-leb (count_of points) most_points a.few in
      let whole : eqb (length stored) (last_entry_of (count_of points) + 1) ≡ true = eq-eqb (length stored) (last_entry_of (count_of points) + 1) size in
      rw (even, few, whole) (made_table points room stored made).table.sound

  -- so every call on a table that was made is answered in order
  pub made-in-order : InOrder points stored
  made-in-order = spline-in-order points stored made-sound (made_table points room stored made).values
