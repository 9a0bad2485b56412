-- `station_lines::lines::put_command` meets its contract. Assumes nothing.
use Prim.Native.Nat.{ℕ}
use mathlib.Core.Path.{refl, ap}
use mathlib.Core.List.{[], ◌∷◌}
use native.Mathlib.Omega.{arith}
use Rattle.station_lines.proofs.Putting.{put_same, within-as, within-then, one_byte}
use Rattle.station_lines.specs.Lines.{command_line}
use Rattle.station_lines.proofs.lines.put_command.Goals as goal

pub returns : goal.returns
unfolding command_line
returns c =
    within-as 70 _
    (within-then (one_byte (put_same c.put_byte-past_letter.ensures _ (ap (λ (b : ℕ). b ∷ []) c.letter.ensures)))
    (within-then c.put_arguments-past_numbers.ensures
    (within-then c.put_offset-past_offset.ensures (one_byte c.put_byte.ensures)))
    ).put
    refl
    (omega arith)
