-- The answers of the entries, case by case. Assumes nothing.
use mathlib.Core.Path.{◌≡◌, ap}
use Prim.Native.Nat.{ℕ, ◌<◌}
use native.Mathlib.Omega.{arith}
use mathlib.Core.Bool.{true, false}
use borrow.Author.Tests.{eq-eqb, ne_eqb}
use lib.Dec.{eqb}
use lib.ListN.{length}
use lib.Ieee.{Float}
use Rattle.answers.specs.declared.refusals.Refusal.TheVariants.{BadPath}
use Rattle.flight.specs.declared.Flight.{Flight}
use Rattle.std.specs.Prelude.{Ok, Err}
use Rattle.path_stored.specs.Buffers.{Buffers}
use Rattle.path_stored.specs.Stored.{is_stored}
use Rattle.path_query.specs.Flights.{nowhere_f, flown_of, flight_of}
use Rattle.path_query.specs.Answered.{flew_of}

-- ---- what a path with or without a segment gives
pub some-kinds : {count : ℕ} → 0 < count → eqb count 0 ≡ false
some-kinds {count} some = ne_eqb count 0 (λ (e : count ≡ 0). omega arith)

module _ (b : Buffers) (p : Float) where
  pub flight-some : 0 < length b.kinds → flown_of b p ≡ flight_of b p
  unfolding flight_of
  flight-some some = rw (some-kinds some)

  pub flight-none : length b.kinds ≡ 0 → nowhere_f ≡ flight_of b p
  unfolding flight_of
  flight-none none = rw (eq-eqb _ _ none)

  -- ---- the answers
  pub flew-well : (flight : Flight) → is_stored b ≡ true → flight ≡ flight_of b p → Ok flight ≡ flew_of b p
  unfolding flew_of
  flew-well flight stored same = rw stored (ap Ok same)

  pub flew-bad : is_stored b ≡ false → Err BadPath ≡ flew_of b p
  unfolding flew_of
  flew-bad bad = rw bad
