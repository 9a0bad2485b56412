-- A single 0 is a sound table of the total 0, in which the lookup of a progress gives the clamped progress: the table of a line, and of an arc that fell back to one. Assumes nothing.
use mathlib.Core.Path.{◌≡◌, refl}
use mathlib.Core.List.{List, [], ◌∷◌}
use lib.Ieee.{Float, of_bits, eq, le}
use native.Mathlib.Omega.{arith}
use Rattle.floats.specs.Floats.{zero_f, epsilon_f, clamp01_of}
use Rattle.table.specs.Lookup.{raw_of}
use Rattle.table.specs.Sound.{SoundTable, table_is_sound, starts_at_zero, lengths_are_sound, all_finite, climbs}

abbrev pub single : List Float
single = zero_f ∷ []

pub single-sound : SoundTable single zero_f
unfolding table_is_sound starts_at_zero lengths_are_sound all_finite climbs zero_f of_bits eq le
single-sound = record { sound = tt; counted = omega arith }

pub single-raw : (progress : Float) → raw_of single zero_f progress ≡ clamp01_of progress
unfolding raw_of zero_f epsilon_f of_bits le
single-raw progress = refl
