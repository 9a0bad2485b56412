-- What is above the lowest is a number; the rest is the lowest. Assumes nothing.
use mathlib.Core.Path.{refl}
use mathlib.Core.Logic.{inr}
use lib.Ieee.{of_bits, is_nan}
use Rattle.lengths.specs.Length.{lowest_f}
use Rattle.lengths.proofs.passes.number.Goals as goal

pub returns-else-x : goal.returns-else-x
unfolding lowest_f is_nan of_bits
returns-else-x c = (tt, inr refl)
