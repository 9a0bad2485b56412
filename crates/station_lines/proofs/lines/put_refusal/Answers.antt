-- `station_lines::lines::put_refusal` meets its contract. Assumes nothing.
use mathlib.Core.Path.{refl, ap}
use native.Mathlib.Omega.{arith}
use Rattle.station_lines.proofs.Putting.{put_then, put_same, within-as, within-then, one_byte}
use Rattle.station_lines.specs.Lines.{refusal_line}
use Rattle.station_lines.specs.Numbers.{number_field}
use Rattle.station_lines.proofs.lines.put_refusal.Goals as goal

pub returns : goal.returns
unfolding refusal_line
returns c =
    within-as 134 _
    (put_then c.put_word-past_word.ensures
    (within-then
    (record { put = put_same c.put_number-past_number.ensures.put _ (ap number_field c.number.ensures); within = c.put_number-past_number.ensures.within })
    (within-then c.put_carried-past_carried.ensures (one_byte c.put_byte.ensures))).put)
    refl (omega (arith, c.put_word-past_word.ensures.past))
