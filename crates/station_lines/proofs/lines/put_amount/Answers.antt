-- `station_lines::lines::put_amount` meets its contract. Assumes nothing.
use mathlib.Core.Path.{refl}
use native.Mathlib.Omega.{arith}
use Rattle.station_lines.proofs.Putting.{within-as, within-then, one_byte}
use Rattle.station_lines.specs.Lines.{amount_line}
use Rattle.station_lines.proofs.lines.put_amount.Goals as goal

pub returns : goal.returns
unfolding amount_line
returns c =
    within-as 21 _ (within-then c.put_whole-past_value.ensures (one_byte c.put_byte.ensures)).put refl
    (omega (arith, c.put_whole-past_value.ensures.within, c.put_byte.ensures.past))
