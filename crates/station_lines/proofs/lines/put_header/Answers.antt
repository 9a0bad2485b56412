-- `station_lines::lines::put_header` meets its contract. Assumes nothing.
use mathlib.Core.Path.{refl}
use native.Mathlib.Omega.{arith}
use Rattle.station_lines.proofs.Putting.{put_then, within-as, within-then, one_byte}
use Rattle.station_lines.specs.Lines.{header_line}
use Rattle.station_lines.proofs.lines.put_header.Goals as goal

pub returns : goal.returns
unfolding header_line
returns c =
    within-as _ _ (put_then c.put_word-past_word.ensures (within-then c.put_number-past_count.ensures (one_byte c.put_byte.ensures)).put) refl
    (omega (arith, c.put_word-past_word.ensures.past))
