-- `table::row_is_sound` meets its contract: the whole row climbs, its first number is 0, and its last is not above the one before. Assumes nothing.
use mathlib.Core.Path.{ap, ◌∙◌}
use mathlib.Core.Bool.{Bool, ◌&&◌}
use Prim.Native.Nat.{◌-◌}
use lib.Ieee.{eq, le}
use Rattle.floats.specs.Floats.{zero_f}
use Rattle.table.specs.Lookup.{at, last_of}
use Rattle.table.proofs.Rows.{row-sound}
use Rattle.table.proofs.soundness.row_is_sound.Goals as goal

pub returns : goal.returns
unfolding zero_f
returns c =
    ap (λ (b : Bool). b && eq (at c.args.row.now 0) zero_f && le (at c.args.row.now (last_of c.args.row.now)) (at c.args.row.now (last_of c.args.row.now - 1))) c.lengths_are_sound.ensures ∙ row-sound c.args.row.now c.requires
