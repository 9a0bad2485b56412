-- What a sound spline is. Assumes nothing.
use mathlib.Core.Path.{◌≡◌, sym, ◌∙◌}
use mathlib.Core.Bool.{Bool, true, not}
use mathlib.Core.List.{List}
use Prim.Native.Nat.{◌+◌}
use native.Mathlib.Omega.{arith}
use borrow.Author.Tests.{leb-true, eqb-true}
use denote.Floats.{passes, is_true}
use lib.Dec.{T, leb, eqb}
use lib.ListN.{length}
use lib.Ieee.{Float}
use lib.Ieee.Fits.{and_l, and_r}
use Rattle.table.specs.Sound.{SoundTable}
use Rattle.polyline.specs.Points.{count_of}
use Rattle.polyline.specs.Judging.{is_odd}
use Rattle.spline_table.specs.Tables.{last_entry_of, most_points}
use Rattle.spline_query.specs.Queries.{spline_total, spline_is_sound, SoundSpline}

pub sound-spline : (points table : List Float) → T (spline_is_sound points table) → SoundSpline points table
unfolding spline_is_sound
sound-spline points table h =
    let a = and_r (not (is_odd points)) _ h in
    let b = and_r (leb (count_of points) most_points) _ a in
    record {
      few = leb-true (count_of points) most_points (is_true _ (and_l (leb (count_of points) most_points) _ a));
      counted = eqb-true (length table) (last_entry_of (count_of points) + 1) (is_true _ (and_l (eqb (length table) (last_entry_of (count_of points) + 1)) _ b));
      sound = and_r (eqb (length table) (last_entry_of (count_of points) + 1)) _ b;
    }

pub sound-table : {points table : List Float} → SoundSpline points table → SoundTable table (spline_total table)
sound-table {points} {table} s = let f = s.few in let c = s.counted in record { sound = s.sound; counted = omega arith }

pub tested-sound : (points table : List Float) (b : Bool) → b ≡ spline_is_sound points table → b ≡ true → SoundSpline points table
tested-sound points table b tested h = sound-spline points table (passes (spline_is_sound points table) (sym tested ∙ h))
