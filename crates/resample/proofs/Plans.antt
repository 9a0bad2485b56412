-- What is planned, way by way; and what a planned way tells of the points and the count. Assumes nothing.
use mathlib.Core.Path.{◌≡◌, refl, ap}
use Prim.Native.Nat.{ℕ, ◌≤◌, ◌<◌}
use native.Mathlib.Omega.{arith}
use mathlib.Core.Bool.{Bool, true, false, cond}
use mathlib.Core.List.{List}
use lib.Dec.{eqb}
use mathlib.Core.Bool.{◌||◌}
use Rattle.std.proofs.lemmas.Bool.Decides.{nat_tests}
use lib.ListN.{length}
use lib.Ieee.{Float, le}
use Rattle.floats.specs.Floats.{epsilon_f}
use Rattle.std.specs.Prelude.{Result, Ok, Err}
use Rattle.answers.specs.declared.refusals.Refusal.{Refusal}
use Rattle.polyline.specs.Points.{count_of, point_at}
use Rattle.polyline.specs.Lengths.{measured_of}
use Rattle.polyline.proofs.Measuring.{measured-whole}
use Rattle.polyline.proofs.Rows.{rows-length}
use Rattle.resample.specs.Spacing as Spacing
use Rattle.resample.specs.Spacing.{spread_at}
use Rattle.resample.specs.Planning.{by_length, plan_of, rows_by, need_of, Planned}
use Rattle.resample.specs.declared.spreading.Way.{Way}
use Rattle.resample.specs.declared.spreading.Way.TheVariants.{Nothing, Copies, Spread}

-- ---- the numbers needed are those of the list
pub need_is : (points : List Float) (count : ℕ) (way : Way) → length (rows_by points count way) ≡ need_of way count
need_is points count Nothing = refl
need_is points count Copies = rows-length (λ i. point_at points 0) count
need_is points count (Spread total) = rows-length (spread_at points total count) count

-- ---- what a way tells of the points and the count
counts-of-copies : (n c : ℕ) (rest : Result Way Refusal) → cond (eqb n 0 || eqb c 0) (Ok Nothing) (cond (eqb n 1 || eqb c 1) (Ok Copies) rest) ≡ Ok Copies → 0 < n
counts-of-copies n c rest e = grind (arith, nat_tests)

counts-of-spread : (n c : ℕ) (rest : Result Way Refusal) (total : Float) → cond (eqb n 0 || eqb c 0) (Ok Nothing) (cond (eqb n 1 || eqb c 1) (Ok Copies) rest) ≡ Ok (Spread total)
    → (2 ≤ n) × (2 ≤ c) × (rest ≡ Ok (Spread total))
counts-of-spread n c rest total e = grind (arith, nat_tests)

long-spread : (short : Bool) (t total : Float) → cond {A = Result Way Refusal} short (Ok Copies) (Ok (Spread t)) ≡ Ok (Spread total) → t ≡ total
long-spread true t total e = cc
long-spread false t total e = cc

spread-measured : (total : Float) (m : Result Float Refusal) → by_length m ≡ Ok (Spread total) → m ≡ Ok total
unfolding by_length
spread-measured total (Err reason) e = cc
spread-measured total (Ok t) e = ap Ok (long-spread (le t epsilon_f) t total e)

module _ (points : List Float) (count : ℕ) (room : ℕ) where
  pub planned-copies : Planned points count Copies room → 0 < count_of points
  unfolding plan_of
  planned-copies p = counts-of-copies (count_of points) count (by_length (measured_of points)) p.planned

  pub planned-spread : (total : Float) → Planned points count (Spread total) room → Spacing.Spread points count total room
  unfolding plan_of
  planned-spread total p =
      let a = counts-of-spread (count_of points) count (by_length (measured_of points)) total p.planned in
      let w = measured-whole points total (spread-measured total (measured_of points) a.2) in
      record { two = a.0; more = a.1; few = p.few; sum = w.sum; fine = w.fine; fits = p.fits }
