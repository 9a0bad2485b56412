-- `station_sections::putting::progress` meets its contract: counts up to 2 ^ 24 are f32 values. Assumes nothing.
use borrow.Author.Rules.{rules}
use Prim.Native.Nat.{◌-◌, ◌^◌}
use mathlib.Core.Path.{refl}
use lib.Dec.{le→leb}
use lib.Ieee.{in_float}
use Rattle.station_sections.specs.Sections.{progress_of}
use Rattle.station_sections.proofs.putting.progress.Goals as goal

pub int_to_float-result : goal.int_to_float-result
unfolding in_float
int_to_float-result c = le→leb c.args.number (2 ^ 24) (search rules)

pub int_to_float-result-2 : goal.int_to_float-result-2
unfolding in_float
int_to_float-result-2 c = le→leb (c.args.count - 1) (2 ^ 24) (search rules)

pub returns : goal.returns
unfolding progress_of
returns c = refl
